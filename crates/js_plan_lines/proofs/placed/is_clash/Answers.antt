-- What is kept doesn't clash; the goal of anything else is formed.
use Rattle.std.proofs.Common.{refl, ap, sym, ◌∙◌}
use Rattle.std.specs.Option.{is_none}
use Rattle.js_plan_lines.proofs.Adding.{none_told}
use Rattle.js_plan_lines.proofs.Keeping.{kept-goal}
use Rattle.js_plan_lines.proofs.placed.is_clash.Goals as goal

pub returns-then-is_kept : goal.returns-then-is_kept
returns-then-is_kept g c =
    sym (kept-goal (g.F.PlanFrame.table c.args.frame.now) (g.F.PlanFrame.frame c.args.frame.now) c.args.path.now
    c.args.before c.args.server c.requires.path c.requires.before (sym c.is_kept.ensures ∙ c.if-is_kept.true))

pub returns : goal.returns
returns g c =
    sym (none_told c.in_ok-goal.goal c.is_none.result c.is_none.result c.is_none.ensures refl)
    ∙ ap is_none c.in_ok-goal.ensures
