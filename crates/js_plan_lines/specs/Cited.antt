-- The first that is placed and whose goal has a number, and the entries of cells by the cells of the members.
use Rattle.std.specs.Prelude.{ℕ, suc, List, [], ◌∷◌, cond, nat_eq, Option, Some, None}
use Rattle.positions.specs.Position.{Position}
use Rattle.goals.specs.Signed.{Signed}
use Rattle.frames.specs.Frame.{Place, In, Frame}
use Rattle.frames.specs.Fillers.{times}
use Rattle.frames.specs.Plan.{goal_of}
use Rattle.certificate_lines.specs.Line.{ShortEntry, Kept}
use Rattle.refutations.specs.PlanTreeLines.{number_of, filler_entry}

abbrev pub cited_as : ℕ → Option ℕ → Option (ℕ × ℕ) → Option (ℕ × ℕ)
cited_as k (Some n) o = Some (k, n)
cited_as k None o = o

module _ (number : List Signed → Option ℕ) (T : List Position) (frame : Frame) where
  -- from number k on: its number, and that of its goal
  abbrev pub cited_from : ℕ → List (Place × List Signed) → Option (ℕ × ℕ)
  cited_from k [] = None
  cited_from k (s ∷ ss) = cited_as k (number_of number (goal_of T frame s)) (cited_from (suc k) ss)

  abbrev pub entry_in : List ℕ → ℕ → ShortEntry
  entry_in members c =
      cond (nat_eq (frame.room c (times c members)) 0) Kept (filler_entry number (goal_of T frame (In c, [])))
