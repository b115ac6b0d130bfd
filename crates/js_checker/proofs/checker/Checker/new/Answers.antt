-- No line leads to the start.
use Rattle.std.proofs.Common.{None, refl, arith}
use Rattle.js_checker.specs.JudgeView.{stage_of}
use Rattle.js_checker.proofs.CheckerLemmas.{start_reached, none_next}
use Rattle.js_checker.proofs.checker.Checker.new.Goals as goal

pub invariant_of-result-2 : goal.invariant_of-result-2
invariant_of-result-2 c = record {
  few = omega arith;
  next = none_next None _ refl;
  well = λ e. c.new.ensures.well;
  reached = λ e.
      start_reached c.args.core.now.positions c.args.a.0 c.args.b.0 (stage_of c.new.result) c.new.ensures.stage;
}
