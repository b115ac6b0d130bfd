-- The walk is that of the frame.
use Rattle.std.proofs.Common.{arith, ap}
use Rattle.frames.specs.Plan.{ends}
use Rattle.js_plans.proofs.alternative_list.plan_alternatives.Goals as goal

pub collect_few-requires-clause-walk : goal.collect_few-requires-clause-walk
collect_few-requires-clause-walk g c =
    c.in_ok-walk.ensures.walk (g.F.PlanFrame.table c.args.frame.now) (g.F.PlanFrame.frame c.args.frame.now)

pub collect-requires-clause-walk : goal.collect-requires-clause-walk
collect-requires-clause-walk g c =
    let T = g.F.PlanFrame.table c.args.frame.now in
    let frame = g.F.PlanFrame.frame c.args.frame.now in
    record {
      walk = c.in_ok-begin.ensures.walk T frame c.in_ok-see_all.ensures.walk.first;
      few = omega (
        arith,
        c.in_ok-see_all.ensures.few,
        c.in_ok-few.ensures.ends,
        c.in_ok-begin.ensures.ends,
        ap ends (c.in_ok-begin.ensures.left T frame),
        ap ends (c.in_ok-walk.ensures.left T frame),
      );
    }
