-- Whose plans, as the definition of verdicts has it.
use Rattle.verdicts.specs.Duties as D
use Rattle.js_plan_lines.specs.declared.form.PlanForm.{PlanForm}
use Rattle.js_plan_lines.specs.declared.form.PlanForm.TheVariants as V

abbrev pub form_view : PlanForm → D.Form
form_view V.OfArrays = D.OfArrays
form_view V.OfObjects = D.OfObjects
