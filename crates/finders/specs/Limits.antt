-- The limits of the automaton of some atoms, and its rows where it passes none.
use Rattle.std.specs.Prelude.{ℕ, List, length, cond, nat_lt, Option, Some, None, Result, Ok, Err}
use Rattle.word_states.specs.Atom.{Atom}
use Rattle.word_states.specs.AtomPositions.{positions_of}
use Rattle.word_states.specs.Classes.{dividers, firsts_among}
use Rattle.alternatives.specs.Limit.{LimitKind, Positions, Classes, States, most_positions, most_classes}
use Rattle.finders.specs.RowsFound.{rows_by}

-- `characters`: all characters in order; `most`: the most rows
module _ (characters : List ℕ) (most : ℕ) where
  abbrev pub firsts : List Atom → List ℕ
  firsts atoms = firsts_among characters (dividers atoms)

  abbrev pub rows_found : List Atom → List (List ℕ)
  rows_found atoms = rows_by (firsts atoms) atoms most

  -- the limit that is passed first
  abbrev pub limit_passed : List Atom → Option LimitKind
  limit_passed atoms =
      cond (nat_lt most_positions (positions_of atoms)) (Some Positions)
      (cond (nat_lt most_classes (length (firsts atoms))) (Some Classes)
      (cond (nat_lt most (length (rows_found atoms))) (Some States) None))

-- an answer, unless a limit is passed
abbrev pub unless_passed : {A : Type 0} → Option LimitKind → A → Result A LimitKind
unless_passed None x = Ok x
unless_passed (Some k) x = Err k
