-- Where entries are, by their keys.
use Rattle.std.specs.Prelude.{◌≡◌, ℕ, ◌<◌, List, length, get_or}

-- for the key of each entry it is noted where the entry is
abbrev pub AreNoted : List ℕ → List ℕ → Type 0
AreNoted keys places =
    (i : ℕ) → i < length keys → (get_or keys i 0 < length places) × (get_or places (get_or keys i 0) 0 ≡ i)
