-- What is in a sink after a report that was not written to its end.
use Rattle.std.specs.Prelude.{ℕ, ◌≤◌, List, length, take, Option}
use Rattle.std.specs.Io.KnownBytes.{Appends}

-- known bytes grew by a prefix of `bytes`
abbrev pub AppendsPrefix : Option (List ℕ) → Option (List ℕ) → List ℕ → Type 0
AppendsPrefix old new bytes = (count : ℕ) × (count ≤ length bytes) × Appends old new (take count bytes)
