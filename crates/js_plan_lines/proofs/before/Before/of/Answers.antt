-- The path before its last server.
use Rattle.std.proofs.Common.{◌<◌, length, arith, subst}
use Rattle.js_plan_lines.specs.Kept.{IsClear}
use Rattle.js_plan_lines.proofs.Extents.{before-last}
use Rattle.js_plan_lines.proofs.Keeping.{cut-last, path-before}
use Rattle.js_plan_lines.proofs.before.Before.of.Goals as goal

pub of-placed-requires-clause-path : goal.of-placed-requires-clause-path
of-placed-requires-clause-path g c =
    path-before (g.F.PlanFrame.frame c.args.frame.now) c.args.path.now c.in-Some.before.now c.in-Some.last.now
    c.in-Some.ensures.cases.0 c.requires.path

pub of-placed-requires-clause-extents : goal.of-placed-requires-clause-extents
of-placed-requires-clause-extents g c =
    before-last c.args.path.now c.in-Some.before.now c.in-Some.last.now c.args.extents.now c.in-Some.ensures.cases.0
    c.requires.extents

pub returns-in-Some : goal.returns-in-Some
returns-in-Some g c =
    let T = g.F.PlanFrame.table c.args.frame.now in
    let frame = g.F.PlanFrame.frame c.args.frame.now in
    let some : 0 < length c.args.path.now = omega (arith, c.in-Some.ensures.cases.1) in
    record {
      path = c.in-Some.before.now;
      is = c.in-Some.ensures.cases.0;
      heads = c.of-placed.ensures.heads;
      members = c.of-placed.ensures.members;
      clear = subst (IsClear T frame)
          (cut-last c.args.path.now c.in-Some.before.now c.in-Some.last.now c.in-Some.ensures.cases.0)
          (c.requires.clear some);
    }
