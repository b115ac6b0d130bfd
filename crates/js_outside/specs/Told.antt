-- What a shelf says of its files, where they are known.
use Rattle.std.specs.Prelude.{◌≡◌, ℕ, min, List, [], Option, None, Some, IsSome, is_none}
use Rattle.std.specs.List.{count_by}
use Rattle.js_outside.specs.Counts.{last_count}

-- a finite map: the bytes of the file of a name, which is given by its UTF-8 bytes
abbrev pub Files : Type 0
Files = List ℕ → Option (List ℕ)

-- the named file is there, and all its bytes are left to be read
abbrev pub FileIsLeft : Option Files → List ℕ → Option (List ℕ) → Type 0
FileIsLeft None name left = left ≡ None
FileIsLeft (Some files) name left = (files name ≡ left) × IsSome left

-- no file is begun: where files are known, nothing is left
abbrev pub NothingIsLeft : Option Files → Option (List ℕ) → Type 0
NothingIsLeft None left = left ≡ None
NothingIsLeft (Some files) left = left ≡ Some []

-- how many of these names aren't there, as far as a count goes
abbrev pub misses : Files → List (List ℕ) → ℕ
misses files names = min (count_by (λ name. is_none (files name)) names) last_count

-- files are known, and each fault was a name that was begun and isn't there
abbrev pub CountsMisses : Option Files → List (List ℕ) → ℕ → Type 0
CountsMisses None names faults = ⊥
CountsMisses (Some files) names faults = faults ≡ misses files names
