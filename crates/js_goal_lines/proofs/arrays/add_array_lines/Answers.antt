-- The line of arrays and the lines of plans are those of the set.
use Rattle.std.proofs.Common.{[], ◌∷◌, ◌++◌, map, refl, ap₂, ◌∙◌}
use Rattle.frames.specs.ArrayFrame as A
use Rattle.certificate_lines.specs.Line as L
use Rattle.verdicts.specs.Duties as Duties
use Rattle.refutations.specs.PlanTreeLines.{plan_lines}
use Rattle.js_algebra.specs.View.{signed_view}
use Rattle.js_lines.specs.declared.lines.CertLine.TheVariants as V
use Rattle.js_lines.specs.View.{line_view}
use Rattle.js_goal_lines.proofs.Adding.{on_ok, one-more, two-pieces}
use Rattle.js_goal_lines.proofs.DeadLines.{array-added}
use Rattle.js_goal_lines.proofs.arrays.add_array_lines.Goals as goal

pub returns-clause-dead : goal.returns-clause-dead
returns-clause-dead g c =
    let number = g.D.Dead.number_of c.args.dead.now in
    let T = c.args.core.now.positions in
    let S = map signed_view c.args.set.now in
    let old = c.args.lines.now.items in
    let pushed = map line_view c.push.new.self.items in
    let now = map line_view c.add_plan_lines.new.lines.items in
    array-added number T old now c.add_plan_lines.result S
    (on_ok _ _ c.add_plan_lines.result
    (λ h. two-pieces (map line_view old) pushed now (L.Arrays ∷ [])
    (plan_lines number Duties.OfArrays T (A.array_frame T S))
    (one-more old c.push.new.self.items V.Array L.Arrays c.in_ok-push.ensures.items refl)
    (h ∙ ap₂ (λ t f. pushed ++ plan_lines number Duties.OfArrays t f) c.in_ok-frame.ensures.table
    c.in_ok-frame.ensures.frame))
    c.add_plan_lines.ensures)
