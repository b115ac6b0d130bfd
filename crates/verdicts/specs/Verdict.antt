-- The verdict on a certificate that every document of which position a holds has position b holding: on its lines, and
-- on its bytes.
use Rattle.std.specs.Prelude.{ℕ, zero, suc, List, [], ◌∷◌, ◌++◌, length, get_or, Bool, true, false, ◌&&◌, cond, nat_lt, Option, Some, None, Result, Ok, Err}
use Rattle.documents.specs.Tests.{every, some}
use Rattle.positions.specs.Position.{Position}
use Rattle.goals.specs.Signed.{Signed, Plus, Minus, position_of, same_signed}
use Rattle.goals.specs.Goal.{form, contains}
use Rattle.certificate_lines.specs.Line as L
use Rattle.certificate_lines.specs.Line.{Line}
use Rattle.certificate_lines.specs.Reader.{Fault, NotALine, TooLong, Unfinished, unless}
use Rattle.certificate_lines.specs.Cut.{Cut, cut}
use Rattle.verdicts.specs.Rules.{not_a_line, too_long, no_end, out_of_place, no_goal, root_not_listed}
use Rattle.verdicts.specs.RowLines.{and_then, if_so}
use Rattle.verdicts.specs.Duties.{Duty, OfGoal, after}

pub data Stage : Type 0 where
  -- the version is to come, and then the number of goals
  Start : Stage
  Counting : Stage
  -- so many goals to come, and those that came
  Listing : ℕ → List (List Signed) → Stage
  -- the listed goals, and what is still to be shown of them
  Showing : List (List Signed) → List Duty → Stage
  Ended : Stage

pub data Verdict : Type 0 where
  Accepted : Verdict
  -- the number of a line, from 1, and the least rule that it breaks
  Rejected : ℕ → ℕ → Verdict

-- a goal may cite a listed one that it contains
abbrev pub cites : List (List Signed) → ℕ → List Signed → Bool
cites gs k g = nat_lt k (length gs) && contains g (get_or gs k [])

-- the list of a goal line is its own goal, of positions of the table
abbrev pub same_list : List Signed → List Signed → Bool
same_list [] [] = true
same_list (x ∷ xs) (y ∷ ys) = same_signed x y && same_list xs ys
same_list _ _ = false

abbrev pub same_goal : List Signed → Option (List Signed) → Bool
same_goal g None = false
same_goal g (Some h) = same_list g h

abbrev pub is_goal : List Position → List Signed → Bool
is_goal T g = every (λ x. nat_lt (position_of x) (length T)) g && same_goal g (form T g)

-- the root list clashes, or its goal contains a listed one
abbrev pub root_is_listed : Option (List Signed) → List (List Signed) → Bool
root_is_listed None gs = true
root_is_listed (Some r) gs = some (contains r) gs

-- the duties of the listed goals, numbered from n
abbrev pub entry_duties : ℕ → List (List Signed) → List Duty
entry_duties n [] = []
entry_duties n (g ∷ gs) = OfGoal n g ∷ entry_duties (suc n) gs

-- `finish`: the verdict where there are no more lines, by the stage and the number that the next line would have
module _ (T : List Position) (a b : ℕ) where
  -- with so many goals to come
  abbrev pub listing : ℕ → List (List Signed) → Result Stage ℕ
  listing zero gs =
      if_so root_not_listed (root_is_listed (form T (Plus a ∷ Minus b ∷ [])) gs) (Showing gs (entry_duties 0 gs))
  listing (suc n) gs = Ok (Listing (suc n) gs)

  -- the stage after a line, or the least rule that the line breaks
  abbrev pub step : Stage → Line → Result Stage ℕ
  step Start L.Version = Ok Counting
  step Counting (L.Goals n) = listing n []
  step (Listing (suc n) gs) (L.Goal g) = cond (is_goal T g) (listing n (gs ++ g ∷ [])) (Err no_goal)
  step (Showing gs []) L.End = Ok Ended
  step (Showing gs (d ∷ ds)) l = and_then (λ es. Ok (Showing gs (es ++ ds))) (after T (cites gs) d l)
  step _ _ = Err out_of_place

  abbrev pub go_on : (Stage → Verdict) → ℕ → Result Stage ℕ → Verdict
  go_on more k (Ok s) = more s
  go_on more k (Err r) = Rejected k r

  abbrev pub judged : (finish : Stage → ℕ → Verdict) → Stage → ℕ → List Line → Verdict
  judged finish s k [] = finish s k
  judged finish s k (l ∷ ls) = go_on (λ u. judged finish u (suc k) ls) k (step s l)

-- the verdict where no line follows
abbrev pub at_end : Stage → ℕ → Verdict
at_end Ended k = Accepted
at_end _ k = Rejected k no_end

-- a part of a line follows
abbrev pub at_part : Stage → ℕ → Verdict
at_part Ended k = Rejected k out_of_place
at_part _ k = Rejected k no_end

-- what is wrong with the bytes behind the lines that were read
abbrev pub at_fault : Option Fault → Stage → ℕ → Verdict
at_fault None = at_end
at_fault (Some Unfinished) = at_part
at_fault (Some (NotALine n)) = λ s k. Rejected n not_a_line
at_fault (Some (TooLong n)) = λ s k. Rejected n too_long

abbrev pub verdict : List Position → ℕ → ℕ → List Line → Verdict
verdict T a b ls = judged T a b at_end Start 1 ls

abbrev pub verdict_of_cut : List Position → ℕ → ℕ → Cut → Verdict
verdict_of_cut T a b c = judged T a b (at_fault (unless c.fault c.left)) Start 1 c.lines

-- the bytes are cut into lines at line feeds, up to the first that is too long or isn't in the grammar
abbrev pub verdict_of_bytes : List Position → ℕ → ℕ → List ℕ → Verdict
verdict_of_bytes T a b bytes = verdict_of_cut T a b (cut bytes)
