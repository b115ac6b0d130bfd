-- The stage that lines lead to.
use Rattle.std.specs.Prelude.{◌≡◌, ℕ, suc, ◌-◌, ◌<◌, ◌≤◌, List, [], ◌++◌, length, get_or, drop, Bool, true, false, not, ◌&&◌, Result}
use Rattle.documents.specs.Tests.{every}
use Rattle.positions.specs.Position.{Position}
use Rattle.goals.specs.Signed.{Signed}
use Rattle.verdicts.specs.Duties.{Duty}
use Rattle.verdicts.specs.Verdict as V
use Rattle.verdicts.specs.Verdict.{Stage, entry_duties, step, listing}
use Rattle.certificate_lines.specs.Line.{Line}
use Rattle.js_algebra.specs.View.{are_in_table}
use Rattle.js_checker.specs.TreeView.{IsOver, IsSteady}
use Rattle.js_checker.specs.EntryView.{goal_duties, is_busy}
use Rattle.js_checker.specs.declared.entry.EntryCheck.{EntryCheck}
use Rattle.js_checker.specs.declared.judge.Progress.{Progress}
use Rattle.js_checker.specs.declared.judge.Progress.TheVariants as P
use Rattle.js_checker.specs.declared.judge.Judge.{Judge}
use Rattle.js_checker.specs.declared.question.Question.{Question}

-- of the goal that was entered last, and then of the goals after it
abbrev pub shown_duties : List (List Signed) → ℕ → EntryCheck → List Duty
shown_duties gs entered e = goal_duties (get_or gs (entered - 1) []) e ++ entry_duties entered (drop entered gs)

abbrev pub stage_at : Progress → List (List Signed) → ℕ → EntryCheck → Stage
stage_at P.Start gs entered e = V.Start
stage_at P.Counting gs entered e = V.Counting
stage_at (P.Listing left) gs entered e = V.Listing (suc left) gs
stage_at P.Showing gs entered e = V.Showing gs (shown_duties gs entered e)
stage_at P.Ended gs entered e = V.Ended

abbrev pub stage_of : Judge → Stage
stage_of j = stage_at j.progress j.goals.items j.entered j.entry

-- no goal was entered
abbrev pub is_early : Progress → Bool
is_early P.Showing = false
is_early P.Ended = false
is_early _ = true

-- goals were listed, and are shown
abbrev pub is_showing : Progress → Bool
is_showing P.Showing = true
is_showing _ = false

-- an entry may come next: nothing is left of the last one
abbrev pub is_between : Judge → Bool
is_between j = is_showing j.progress && not (is_busy j.entry)

-- no goal was listed
abbrev pub is_head : Progress → Bool
is_head P.Start = true
is_head P.Counting = true
is_head _ = false

-- what is at hand is of a table, and of a goal that was entered
pub record IsWell (T : List Position) (j : Judge) : Type 0 where
  pub goals : every (are_in_table T) j.goals.items ≡ true
  pub over : IsOver T j.entry.tree
  pub steady : IsSteady j.entry.tree
  pub entered : j.entered ≤ length j.goals.items
  pub begun : is_busy j.entry ≡ true → 0 < j.entered
  pub early : is_early j.progress ≡ true → j.entered ≡ 0
  pub head : is_head j.progress ≡ true → length j.goals.items ≡ 0

abbrev pub after_line : Question → Stage → Line → Result Stage ℕ
after_line q = step q.core.now.positions q.premise.0 q.conclusion.0

abbrev pub after_goals : Question → ℕ → List (List Signed) → Result Stage ℕ
after_goals q = listing q.core.now.positions q.premise.0 q.conclusion.0
