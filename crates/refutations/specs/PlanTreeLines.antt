-- The lines of a tree of plans, where the numbers of goals that no document meets are known.
use Rattle.std.specs.Prelude.{ℕ, suc, ◌-◌, List, [], ◌∷◌, map, flat_map, cond, nat_eq, nat_lt, Option, Some, None}
use Rattle.positions.specs.Position.{Position}
use Rattle.goals.specs.Signed.{Signed}
use Rattle.frames.specs.Frame.{Place, In, Frame, is_at_end}
use Rattle.frames.specs.Plan.{Plan, empty_plan, count_in, options, size, placed, goal_of, first_clash}
use Rattle.certificate_lines.specs.Line as L
use Rattle.certificate_lines.specs.Line.{Line, Ending, Clashes, Cites, ShortEntry, Kept, Ends}
use Rattle.verdicts.specs.Duties.{Form, OfArrays, OfObjects, heads_placed}

-- the line that names what is placed, by its number
abbrev pub at_line : Form → Frame → Plan → ℕ → Ending → Line
at_line OfObjects frame p k e = L.OfMember k e
at_line OfArrays frame p k e =
    cond (nat_lt k (heads_placed frame p)) (L.OfIndex k e) (L.OfTail (k - heads_placed frame p) e)

module _ (number : List Signed → Option ℕ) where
  -- the number of the goal of a list, if the list forms one
  abbrev pub number_of : Option (List Signed) → Option ℕ
  number_of None = None
  number_of (Some g) = number g

  abbrev pub kept_unless : Option ℕ → ShortEntry
  kept_unless None = Kept
  kept_unless (Some n) = Ends (Cites n)

  abbrev pub filler_entry : Option (List Signed) → ShortEntry
  filler_entry None = Ends Clashes
  filler_entry (Some g) = kept_unless (number g)

  -- a cell without room is kept
  abbrev pub entry_at : List Position → Frame → Plan → ℕ → ShortEntry
  entry_at T frame p c =
      cond (nat_eq (frame.room c (count_in c p.members)) 0) Kept (filler_entry (goal_of T frame (In c, [])))

  module _ (form : Form) (T : List Position) (frame : Frame) where
    abbrev pub cited_or : Plan → ℕ → Option ℕ → Line → Line
    cited_or p k None l = l
    cited_or p k (Some n) l = at_line form frame p k (Cites n)

    -- the first, from number k on, whose goal has a number; or else another line
    abbrev pub first_cited : Plan → ℕ → List (Place × List Signed) → Line → Line
    first_cited p k [] l = l
    first_cited p k (s ∷ ss) l = cited_or p k (number_of (goal_of T frame s)) (first_cited p (suc k) ss l)

    abbrev pub complete_line : Plan → Line
    complete_line p = first_cited p 0 (placed frame p) (L.Short (map (entry_at T frame p) frame.cells))

    abbrev pub unless_clash : Plan → Option ℕ → List Line → List Line
    unless_clash p None ls = ls
    unless_clash p (Some k) ls = at_line form frame p k Clashes ∷ []

    abbrev pub unless_over : Plan → List Line → List Line
    unless_over p ls =
        cond (is_at_end (size frame p) frame.below) (L.Count ∷ []) (unless_clash p (first_clash T frame p) ls)

    -- in pre-order, as the steps of the tree are
    abbrev pub lines_from : List Signed → Plan → List Line
    lines_from [] p = unless_over p (complete_line p ∷ [])
    lines_from (d ∷ left) p = unless_over p (L.Split ∷ flat_map (lines_from left) (options frame d p))

    unfoldable pub plan_lines : List Line
    plan_lines = lines_from frame.demands (empty_plan frame)
