-- Internal: how many members are in each cell, as a map says it.
use Rattle.std.specs.Prelude.{◌≡◌, ℕ, List, unwrap_or}
use Rattle.std.specs.Ordering.{nat_cmp}
use Rattle.std.specs.BTreeMap.{BTreeMap, get}
use Rattle.frames.specs.Fillers.{times}

-- a cell that the map doesn't have has no member
abbrev pub count_in : BTreeMap ℕ ℕ → ℕ → ℕ
count_in m c = unwrap_or (get nat_cmp m c) 0

-- the count of the cell is this one, and the others stay
pub record Puts (old new : BTreeMap ℕ ℕ) (c n : ℕ) : Type 0 where
  pub at : count_in new c ≡ n
  pub others : (d : ℕ) → (d ≡ c → ⊥) → count_in new d ≡ count_in old d

-- it says for each cell how many of these are that one
abbrev pub AreCounts : BTreeMap ℕ ℕ → List ℕ → Type 0
AreCounts m cs = (c : ℕ) → count_in m c ≡ times c cs
