-- Labels of rows, of which none is missing, one too many or wrong; and the first row of which this doesn't hold.
use Rattle.std.specs.Prelude.{◌≡◌, ◌<◌, ◌≤◌, ◌+◌, ◌⊎◌, ℕ, List, [], length, get_or, Bool, false, ◌&&◌, nat_eq, nat_le}
use Rattle.std.specs.List.{range_with_len}
use Rattle.documents.specs.Tests.{every}
use Rattle.word_states.specs.Atom.{Atom}
use Rattle.word_states.specs.Classes.{class_count}
use Rattle.positions.specs.Position.{Position}
use Rattle.cells.specs.Cells.{Cells}
use Rattle.cell_laws.specs.Counting.{asked_by}
use Rattle.verdicts.specs.RowLines.{Table, stated}
use Rattle.verdicts.specs.Bounds.{width_of, has_row, is_right}
use Rattle.verdicts.specs.Leaves.{least_right}
use Rattle.js_check_rows.specs.declared.fault.RowFault.{RowFault}
use Rattle.js_check_rows.specs.declared.fault.RowFault.TheVariants as R

-- the property holds of the number, and of no number before
abbrev pub IsFirst : (ℕ → Type 0) → ℕ → Type 0
IsFirst holds r = holds r × ((q : ℕ) → q < r → holds q → ⊥)

-- there is no such row, or the row has no label
abbrev pub IsAlone : Table (List ℕ) → List ℕ → ℕ → Type 0
IsAlone t labels r = (length labels ≤ r) ⊎ (length t.words ≤ r)

module _ (atoms : List Atom) (t : Table (List ℕ)) where
  -- the label of the row is more than one above that of a row which leads there
  pub record IsPast (labels : List ℕ) (r : ℕ) : Type 0 where
    pub from : ℕ
    pub class : ℕ
    pub row : from < length t.words
    pub label : from < length labels
    pub by : class < class_count atoms
    pub leads : stated t from class ≡ r
    pub more : get_or labels from 0 + 1 < get_or labels r 0

  -- or it is the first row, and its label isn't 0
  abbrev pub IsTooGreat : List ℕ → ℕ → Type 0
  IsTooGreat labels r = ((r ≡ 0) × (0 < get_or labels 0 0)) ⊎ IsPast labels r

  -- the first row whose label is missing, one too many or too great
  abbrev pub LeastTells : List ℕ → RowFault → Type 0
  LeastTells labels (R.Least r) =
      IsFirst (λ q. IsAlone t labels q ⊎ IsTooGreat labels q) r × (least_right [] [] atoms t labels ≡ false)
  LeastTells labels _ = ⊥

  module _ (marks : List Bool) (labels : List ℕ) where
    -- what is required of the label of a row
    abbrev pub asked_of : ℕ → ℕ
    asked_of r =
        asked_by (class_count atoms) (width_of atoms) (stated t) (λ q. get_or marks q false) (λ q. get_or labels q 0) r

    -- there is a label for each row, and each is enough
    abbrev pub are_kept : Bool
    are_kept =
        nat_eq (length labels) (length t.words)
        && every (λ r. nat_le (asked_of r) (get_or labels r 0)) (range_with_len 0 (length t.words))

    -- the first row whose label is missing, one too many or too small
    abbrev pub BoundTells : RowFault → Type 0
    BoundTells (R.Capacity r) =
        IsFirst (λ q. IsAlone t labels q ⊎ (get_or labels q 0 < asked_of q)) r × (are_kept ≡ false)
    BoundTells _ = ⊥

    -- where the marks say which rows are in a cell, this is the rule of a bound of it
    abbrev pub AreBounds : Type 0
    AreBounds =
        (T : List Position) (C : Cells) (c : ℕ)
        → ((r : ℕ) → r < length t.words → get_or marks r false ≡ has_row T atoms t.words (stated t) C c r)
        → are_kept ≡ is_right T atoms t.words (stated t) C (c, labels)
