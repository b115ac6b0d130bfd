-- How many words there are.
use Rattle.std.specs.Prelude.{◌≡◌, ℕ, ◌≤◌, ◌<◌, List, ◌++◌, length}
use Rattle.list_laws.specs.In.{IsIn, Distinct}
use Rattle.positions.specs.Position.{Position}
use Rattle.cells.specs.Cells.{Cells}
use Rattle.cell_laws.specs.RightCells.{IsOf}

-- different words with which a beginning goes on to names of a cell
abbrev pub AreEnds : List Position → Cells → ℕ → List ℕ → List (List ℕ) → Type 0
AreEnds T C c u ws = Distinct ws × ((w : List ℕ) → IsIn w ws → IsOf T C c (u ++ w))

-- there are so many of them, and no more, unless the number is cut
pub record IsCount (T : List Position) (C : Cells) (c : ℕ) (u : List ℕ) (n : ℕ) : Type 0 where
  pub some : (ws : List (List ℕ)) × (length ws ≡ n) × AreEnds T C c u ws
  pub all : n < 65537 → (ws : List (List ℕ)) → AreEnds T C c u ws → length ws ≤ n
