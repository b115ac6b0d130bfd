-- The bounds that a certificate states for cells, and the rule that they have to keep.
use Rattle.std.specs.Prelude.{ℕ, List, [], ◌∷◌, length, get_or, Bool, ◌&&◌, cond, nat_eq, nat_le, Option, Some, None}
use Rattle.std.specs.List.{range_with_len}
use Rattle.documents.specs.Tests.{every}
use Rattle.patterns.specs.CharSet.{count_below}
use Rattle.word_states.specs.Atom.{Atom}
use Rattle.word_states.specs.Classes.{class_count, is_in_class}
use Rattle.positions.specs.Position.{Position}
use Rattle.cells.specs.Cells.{Cells, cell_of}
use Rattle.cell_laws.specs.Counting.{asked_by}

-- a cell, and a label for each row: so many words, at most, lead from the row into the cell
abbrev pub Bound : Type 0
Bound = ℕ × List ℕ

-- the bound of a cell's words is the label of the first row; a cell of which nothing is stated has none
abbrev pub bounds_of : List Bound → ℕ → Option ℕ
bounds_of [] c = None
bounds_of (b ∷ bs) c = cond (nat_eq b.0 c) (Some (get_or b.1 0 0)) (bounds_of bs c)

-- the number of characters of a class
abbrev pub width_of : List Atom → ℕ → ℕ
width_of atoms k = count_below (is_in_class atoms k) 0x110000

-- `words`: a word for each row; `target`: to which row a row leads, by the number of a class
module _ (T : List Position) (atoms : List Atom) (words : List (List ℕ)) (target : ℕ → ℕ → ℕ) (C : Cells) where
  -- the row of that number is in the cell
  abbrev pub has_row : ℕ → ℕ → Bool
  has_row c r = nat_eq (cell_of T C (get_or words r [])) c

  -- a label is at least the sum of the labels of its row's targets, each as often as its class has characters, and one
  -- more where the row is in the cell
  abbrev pub keeps : ℕ → List ℕ → ℕ → Bool
  keeps c labels r =
      nat_le (asked_by (class_count atoms) (width_of atoms) target (has_row c) (λ q. get_or labels q 0) r)
      (get_or labels r 0)

  -- a label for each row, and each keeps the rule
  abbrev pub is_right : Bound → Bool
  is_right b = nat_eq (length b.1) (length words) && every (keeps b.0 b.1) (range_with_len 0 (length words))
