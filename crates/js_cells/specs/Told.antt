-- Flags of rows, as they are written literal by literal.
use Rattle.std.specs.Prelude.{◌≡◌, ℕ, ◌<◌, Bool, false, if◌then◌else◌, List, [], length, get_or, set}

-- at those rows the flag was written at that place, and elsewhere nothing
pub record AreSet (p : ℕ → Bool) (flag : Bool) (place : ℕ) (old new : List (List Bool)) : Type 0 where
  pub count : length new ≡ length old
  pub at : (r : ℕ) → r < length old
      → get_or new r [] ≡ (if p r then set (get_or old r []) place flag else get_or old r [])

-- each row has the place
abbrev pub HavePlace : ℕ → List (List Bool) → Type 0
HavePlace place told = (r : ℕ) → r < length told → place < length (get_or told r [])

-- each row has nothing set at the place
abbrev pub AreBlank : ℕ → List (List Bool) → Type 0
AreBlank place told = (r : ℕ) → r < length told → get_or (get_or told r []) place false ≡ false
