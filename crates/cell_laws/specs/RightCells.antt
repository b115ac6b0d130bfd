-- What the cells of a set, and the words of its cells, have to be.
use Rattle.std.specs.Prelude.{◌≡◌, ℕ, ◌<◌, ◌≤◌, List, length, true}
use Rattle.documents.specs.Tests.{every, is_scalar}
use Rattle.positions.specs.Position.{Position}
use Rattle.goals.specs.Signed.{Signed}
use Rattle.cells.specs.Cells.{Cells, cell_of, truth, says}
use Rattle.list_laws.specs.In.{IsIn, Distinct}

-- a name, and of that cell
abbrev pub IsOf : List Position → Cells → ℕ → List ℕ → Type 0
IsOf T C c w = (every is_scalar w ≡ true) × (cell_of T C w ≡ c)

-- what the cells of a set have to be
pub record AreCells (T : List Position) (S : List Signed) (C : Cells) : Type 0 where
  -- each name has a cell, which gives what the literals of the set say of it
  pub known : (w : List ℕ) → every is_scalar w ≡ true → cell_of T C w < length C.vectors
  pub exact : (x : Signed) (w : List ℕ) → IsIn x S → every is_scalar w ≡ true → truth C (cell_of T C w) x ≡ says T x w

-- what the words of its cells have to be
pub record AreWords (T : List Position) (C : Cells) : Type 0 where
  -- the words of a cell are different names of it; where their count isn't cut, no list of different names is longer
  pub of_cell : (c : ℕ) (w : List ℕ) → IsIn w (C.words c) → IsOf T C c w
  pub differ : (c : ℕ) → Distinct (C.words c)
  pub all : (c : ℕ) → length (C.words c) < C.bound → (ws : List (List ℕ)) → Distinct ws
      → ((w : List ℕ) → IsIn w ws → IsOf T C c w) → length ws ≤ length (C.words c)
