-- The table and the duties of a stage, and what a step answers.
use Rattle.std.specs.Prelude.{◌≡◌, ℕ, List, [], ◌∷◌, Result, Ok, Err}
use Rattle.positions.specs.Position.{Position}
use Rattle.verdicts.specs.Duties.{Duty}
use Rattle.js_rules.specs.Told.{Breaks}
use Rattle.js_rules.specs.declared.fault.RuleFault.{RuleFault}
use Rattle.js_check_objects.specs.OpenView.{rows_duty, bounds_duty, plan_duties_of}
use Rattle.js_check_objects.specs.declared.stage.Stage.{Stage}
use Rattle.js_check_objects.specs.declared.stage.Stage.TheVariants as S

abbrev pub stage_table : Stage → List Position
stage_table (S.Rows x) = x.core.now.positions
stage_table (S.Bounds x) = x.core.now.positions
stage_table (S.Plans x) = x.frame.core.now.positions
stage_table S.Over = []

abbrev pub stage_duties : Stage → List Duty
stage_duties (S.Rows x) = rows_duty x ∷ []
stage_duties (S.Bounds x) = bounds_duty x ∷ []
stage_duties (S.Plans x) = plan_duties_of x
stage_duties S.Over = []

-- the definition says of a line over the table what the answer says
pub record Takes (T : List Position) (v : Result (List Duty) ℕ) (stage : Stage) : Type 0 where
  pub table : stage_table stage ≡ T
  pub taken : v ≡ Ok (stage_duties stage)

abbrev pub Answers : List Position → Result (List Duty) ℕ → Result Stage RuleFault → Type 0
Answers T v (Ok stage) = Takes T v stage
Answers T v (Err fault) = Breaks v fault
