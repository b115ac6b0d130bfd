-- Duties: what is still to be shown. A line leaves duties in the place of the first one, or breaks a rule.
use Rattle.std.specs.Prelude.{ℕ, zero, suc, ◌+◌, ◌-◌, min, List, [], ◌∷◌, ◌++◌, map, length, Bool, true, ◌&&◌, cond, nat_eq, nat_lt, Option, Some, None, Result, Ok, Err}
use Rattle.documents.specs.Kind as K
use Rattle.documents.specs.Kind.{Kind, all_kinds, same_kind}
use Rattle.word_states.specs.Atom.{Atom}
use Rattle.positions.specs.Position.{Position}
use Rattle.goals.specs.Signed.{Signed, Plus, Minus, has, add_all}
use Rattle.goals.specs.Choices.{choices, is_wrong}
use Rattle.frames.specs.Frame.{Frame}
use Rattle.frames.specs.Plan.{Plan, empty_plan, size}
use Rattle.frames.specs.PlanLines as P
use Rattle.frames.specs.PlanLines.{PlanLine}
use Rattle.frames.specs.ArrayFrame.{array_frame}
use Rattle.finders.specs.Strings.{string_atoms}
use Rattle.finders.specs.Names.{atoms_of_names}
use Rattle.certificate_lines.specs.Line as L
use Rattle.certificate_lines.specs.Line.{Line, Ending, ShortEntry}
use Rattle.verdicts.specs.Rules.{out_of_place, other_entry, other_kind, no_choices, no_clash, not_wrong, other_leaf, bounds_meet, truth_left, number_left, no_rows, wrong_least, wanted_left, wrong_bound, not_refuted}
use Rattle.verdicts.specs.RowLines.{Table, and_then, if_so, begin_table, row_taken}
use Rattle.verdicts.specs.Bounds.{Bound}
use Rattle.verdicts.specs.Leaves.{are_within_limits, crossed, has_no_truth, has_no_number, least_right, least_past, stated_frame, bound_right}

-- whose plans: this decides which line names what is placed
pub data Form : Type 0 where
  OfArrays : Form
  OfObjects : Form

-- what rows are for: least lengths, or cells with so many bounds
pub data Purpose : Type 0 where
  ForLengths : Purpose
  ForCells : ℕ → Purpose

pub data Duty : Type 0 where
  -- no document meets the goal, which has that number
  OfGoal : ℕ → List Signed → Duty
  -- no document of the kind meets the goal, said by the kind's line
  AtKind : Kind → List Signed → Duty
  -- no document of the kind meets the set
  OfSet : Kind → List Signed → Duty
  -- so many rows in all, and what of them was stated
  OfRows : Purpose → List Signed → ℕ → Table (List ℕ) → Duty
  -- no string meets the set, by least lengths
  OfLeast : List Signed → Table (List ℕ) → Duty
  -- so many bounds to come, and those that were stated, the last one first
  OfBounds : List Signed → Table (List ℕ) → ℕ → List Bound → Duty
  -- nothing is arranged by the plan, which has these demands left
  OfPlan : Form → Frame → Plan → List Signed → Duty

-- a leaf of a kind
abbrev pub leaf : Kind → Kind → Result (List Duty) ℕ → Result (List Duty) ℕ
leaf u t r = cond (same_kind u t) r (Err other_leaf)

-- a set for each choice
abbrev pub by_choices : Kind → List Signed → Bool → Option (List (List Signed)) → Result (List Duty) ℕ
by_choices t set true (Some cs) = Ok (map (λ C. OfSet t (add_all C set)) cs)
by_choices t set _ _ = Err no_choices

abbrev pub by_bounds : Option Bool → Result (List Duty) ℕ
by_bounds None = Err other_leaf
by_bounds (Some b) = if_so bounds_meet b []

-- the lines of plans, in the words of plans

abbrev pub ending : Ending → P.Ending
ending L.Clashes = P.Clashes
ending (L.Cites k) = P.Cites k

abbrev pub entry : ShortEntry → P.Entry
entry L.Kept = P.Kept
entry (L.Ends e) = P.Ends (ending e)

-- so many first places are placed; members come behind them
abbrev pub heads_placed : Frame → Plan → ℕ
heads_placed frame p = min (size frame p) (length p.heads)

abbrev pub plan_line : Form → Frame → Plan → Line → Result PlanLine ℕ
plan_line form frame p L.Count = Ok P.Count
plan_line form frame p L.Split = Ok P.Split
plan_line form frame p (L.Short es) = Ok (P.Short (map entry es))
plan_line OfObjects frame p (L.OfMember m e) = Ok (P.At m (ending e))
plan_line OfArrays frame p (L.OfIndex i e) = if_so not_refuted (nat_lt i (heads_placed frame p)) (P.At i (ending e))
plan_line OfArrays frame p (L.OfTail j e) = Ok (P.At (heads_placed frame p + j) (ending e))
plan_line _ frame p _ = Err out_of_place

abbrev pub rest : List Signed → List Signed
rest [] = []
rest (d ∷ left) = left

abbrev pub plan_duty : Form → Frame → Duty
plan_duty form frame = OfPlan form frame (empty_plan frame) frame.demands

-- the same plan's options, with a demand less
abbrev pub plan_duties : Form → Frame → List Signed → List Plan → List Duty
plan_duties form frame left qs = map (λ q. OfPlan form frame q (rest left)) qs

module _ (T : List Position) where
  abbrev pub atoms_for : Purpose → List Signed → List Atom
  atoms_for ForLengths set = string_atoms T set
  atoms_for (ForCells n) set = atoms_of_names T set

  abbrev pub begin_rows : Purpose → List Signed → ℕ → Result (List Duty) ℕ
  begin_rows u set count =
      if_so no_rows (nat_lt 0 count && are_within_limits (atoms_for u set)) (OfRows u set count begin_table ∷ [])

  -- after the last bound comes the plan
  abbrev pub next_bounds : List Signed → Table (List ℕ) → ℕ → List Bound → Duty
  next_bounds set t zero bs = plan_duty OfObjects (stated_frame T set t bs)
  next_bounds set t (suc n) bs = OfBounds set t (suc n) bs

  abbrev pub after_rows : Purpose → List Signed → Table (List ℕ) → Duty
  after_rows ForLengths set t = OfLeast set t
  after_rows (ForCells n) set t = next_bounds set t n []

  abbrev pub next_rows : Purpose → List Signed → ℕ → Table (List ℕ) → Duty
  next_rows u set count t = cond (nat_eq (length t.targets) count) (after_rows u set t) (OfRows u set count t)

  abbrev pub after_set : Kind → List Signed → Line → Result (List Duty) ℕ
  after_set t set (L.Rule x) = by_choices t set (has x set) (choices T t x)
  after_set t set (L.Clash p) = if_so no_clash (has (Plus p) set && has (Minus p) set) []
  after_set t set (L.OfKind x) = if_so not_wrong (has x set && is_wrong T t x) []
  after_set t set L.Count = by_bounds (crossed T set t)
  after_set t set L.NoTruth = leaf K.Boolean t (if_so truth_left (has_no_truth T set) [])
  after_set t set L.NoNumber = leaf K.Number t (if_so number_left (has_no_number T set) [])
  after_set t set (L.Strings count) = leaf K.Text t (begin_rows ForLengths set count)
  after_set t set L.Arrays = leaf K.Array t (Ok (plan_duty OfArrays (array_frame T set) ∷ []))
  after_set t set (L.Objects count n) = leaf K.Object t (begin_rows (ForCells n) set count)
  after_set t set _ = Err out_of_place

  abbrev pub after_row : Purpose → List Signed → ℕ → Table (List ℕ) → List ℕ → Result (List Duty) ℕ
  after_row u set count t ts =
      and_then (λ v. Ok (next_rows u set count v ∷ [])) (row_taken (atoms_for u set) count t ts)

  abbrev pub after_least : List Signed → Table (List ℕ) → List ℕ → Result (List Duty) ℕ
  after_least set t ds =
      cond (least_right T set (string_atoms T set) t ds) (if_so wanted_left (least_past T set t ds) [])
      (Err wrong_least)

  abbrev pub after_bound : List Signed → Table (List ℕ) → ℕ → List Bound → Bound → Result (List Duty) ℕ
  after_bound set t left bs b =
      if_so wrong_bound (bound_right T set t bs b) (next_bounds set t (left - 1) (b ∷ bs) ∷ [])

  -- `cite`: the number may be cited for the goal
  module _ (cite : ℕ → List Signed → Bool) where
    abbrev pub after_plan : Form → Frame → Plan → List Signed → PlanLine → Result (List Duty) ℕ
    after_plan form frame p left l =
        and_then (λ qs. Ok (plan_duties form frame left qs)) (P.after T cite frame p left l)

    abbrev pub after : Duty → Line → Result (List Duty) ℕ
    after (OfGoal n g) (L.Entry m) = if_so other_entry (nat_eq n m) (map (λ t. AtKind t g) all_kinds)
    after (AtKind t g) (L.At u) = if_so other_kind (same_kind t u) (OfSet t g ∷ [])
    after (OfSet t set) l = after_set t set l
    after (OfRows u set count t) (L.Row ts) = after_row u set count t ts
    after (OfLeast set t) (L.Least ds) = after_least set t ds
    after (OfBounds set t left bs) (L.Cap c ds) = after_bound set t left bs (c, ds)
    after (OfPlan form frame p left) l = and_then (after_plan form frame p left) (plan_line form frame p l)
    after _ _ = Err out_of_place

    -- what lines leave of duties
    abbrev pub run : List Duty → List Line → Result (List Duty) ℕ
    run ds [] = Ok ds
    run [] (l ∷ ls) = Err out_of_place
    run (d ∷ ds) (l ∷ ls) = and_then (λ es. run (es ++ ds) ls) (after d l)
