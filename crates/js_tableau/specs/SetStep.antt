-- The step of a tree at a set that the program's step stands for.
use Rattle.std.specs.Prelude.{List}
use Rattle.goals.specs.Signed.{Signed}
use Rattle.goals.specs.Tree as T
use Rattle.js_algebra.specs.View.{signed_view}
use Rattle.js_tableau.specs.declared.set_step.TableauStep.{TableauStep}
use Rattle.js_tableau.specs.declared.set_step.TableauStep.TheVariants as V

-- a saturated end is its set
abbrev pub set_step_view : List Signed → TableauStep → T.Step
set_step_view S (V.Clash p) = T.Clash p.0
set_step_view S (V.Kind x) = T.Wrong (signed_view x)
set_step_view S (V.Rule x cs) = T.Rule (signed_view x) cs
set_step_view S V.Saturated = T.Saturated S
