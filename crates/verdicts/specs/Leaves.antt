-- What the lines of a leaf say of a set: crossed bounds, no truth value, no number; and the tests of rows and labels.
use Rattle.std.specs.Prelude.{ℕ, suc, List, [], ◌∷◌, length, get_or, Bool, true, false, ◌&&◌, ◌||◌, not, nat_eq, nat_le, nat_lt, Option, Some, None, Result, Ok}
use Rattle.std.specs.List.{range_with_len}
use Rattle.documents.specs.Tests.{every, some}
use Rattle.documents.specs.Kind as K
use Rattle.documents.specs.Kind.{Kind}
use Rattle.word_states.specs.Atom.{Atom}
use Rattle.word_states.specs.AtomPositions.{positions_of}
use Rattle.word_states.specs.Classes.{characters, class_count}
use Rattle.positions.specs.Position.{Position}
use Rattle.goals.specs.Signed.{Signed}
use Rattle.cells.specs.Cells.{Cells, cells}
use Rattle.alternatives.specs.Limit.{LimitKind, most_positions, most_classes, most_words}
use Rattle.frames.specs.Frame.{Frame, is_at_end}
use Rattle.frames.specs.ArrayFrame as A
use Rattle.frames.specs.ObjectFrame as O
use Rattle.frames.specs.ObjectFrame.{object_frame_with}
use Rattle.expansions.specs.Leaves.{agrees}
use Rattle.finders.specs.WordsFound.{far}
use Rattle.finders.specs.Strings as S
use Rattle.finders.specs.Strings.{is_wanted}
use Rattle.finders.specs.Names.{atoms_of_names}
use Rattle.number_finder.specs.NumbersOf.{numbers_of}
use Rattle.verdicts.specs.RowLines.{Table, stated}
use Rattle.verdicts.specs.Bounds.{Bound, bounds_of, is_right}

-- the patterns have no more positions, and all atoms no more classes of characters, than an automaton may have; of rows
-- there may be any number
abbrev pub are_within_limits : List Atom → Bool
are_within_limits atoms = nat_le (positions_of atoms) most_positions && nat_le (class_count atoms) most_classes

-- none is found, and no limit is passed
abbrev pub is_none_found : {A : Type 0} → Result (Option A) LimitKind → Bool
is_none_found (Ok None) = true
is_none_found _ = false

-- the cell comes after those of which bounds were stated, the last of these first
abbrev pub comes_after : List Bound → ℕ → Bool
comes_after [] c = true
comes_after (b ∷ bs) c = nat_lt b.0 c

module _ (T : List Position) (set : List Signed) where
  -- the lower bound is above the upper one; none where the kind has no bounds
  abbrev pub crossed : Kind → Option Bool
  crossed K.Text = Some (is_at_end (S.lower T set) (S.below T set))
  crossed K.Array = Some (is_at_end (A.lower T set) (A.below T set))
  crossed K.Object = Some (is_at_end (O.lower T set) (O.below T set))
  crossed _ = None

  abbrev pub has_no_truth : Bool
  has_no_truth = not (some (λ b. every (agrees T b) set) (false ∷ true ∷ []))

  abbrev pub has_no_number : Bool
  has_no_number = is_none_found (numbers_of T set)

  -- labels: one for each row, 0 for the first one, and none more than one above that of a row which leads there
  abbrev pub least_right : List Atom → Table (List ℕ) → List ℕ → Bool
  least_right atoms t ds =
      nat_eq (length ds) (length t.words)
      && (nat_eq (get_or ds 0 0) 0
      && every (λ r. every (λ k. nat_le (get_or ds (stated t r k) 0) (suc (get_or ds r 0)))
      (range_with_len 0 (class_count atoms))) (range_with_len 0 (length t.words)))

  -- each row that is wanted has a label above the upper bound
  abbrev pub least_past : Table (List ℕ) → List ℕ → Bool
  least_past t ds =
      every (λ r. not (is_wanted T set (get_or t.words r [])) || is_at_end (get_or ds r 0) (S.below T set))
      (range_with_len 0 (length t.words))

  -- the cells of names, numbered by the rows that were stated
  abbrev pub table_cells : Table (List ℕ) → Cells
  table_cells t = cells characters far most_words T set t.words

  -- the frame of the set at objects, with the bounds that were stated in place of the number of words of each cell;
  -- lines of plans don't depend on rooms otherwise
  abbrev pub stated_frame : Table (List ℕ) → List Bound → Frame
  stated_frame t bs = object_frame_with (bounds_of bs) (λ c n. 0) T (table_cells t) set

  -- one more bound: of a cell, which comes after the others, and with right labels
  abbrev pub bound_right : Table (List ℕ) → List Bound → Bound → Bool
  bound_right t bs b =
      nat_lt b.0 (length (table_cells t).vectors)
      && (comes_after bs b.0 && is_right T (atoms_of_names T set) t.words (stated t) (table_cells t) b)
