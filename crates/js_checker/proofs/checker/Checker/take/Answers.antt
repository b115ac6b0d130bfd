-- A line later the checker stands for one line more.
use Rattle.std.proofs.Common.{arith}
use Rattle.js_lines.specs.View.{line_view}
use Rattle.js_checker.specs.JudgeView.{stage_of}
use Rattle.js_checker.proofs.CheckerLemmas.{next_reached, next_stands, broken_stands, none_next, told_next}
use Rattle.js_checker.proofs.checker.Checker.take.Goals as goal

pub invariant_of-self : goal.invariant_of-self
invariant_of-self c =
    let x = c.args.self.now in
    let q = x.question in
    record {
      few = omega (arith, c.requires);
      next = none_next x.fault _ c.in_default.is;
      well = λ e. c.in-Ok.ensures.well;
      reached = λ e. next_reached q.core.now.positions q.premise.0 q.conclusion.0 (line_view c.args.line.now)
          (stage_of x.judge) (stage_of c.take.new.self) x.lines c.in-Ok.ensures.taken (x.reached e);
    }

pub returns-in-Ok-clause-stands : goal.returns-in-Ok-clause-stands
returns-in-Ok-clause-stands c =
    let x = c.args.self.now in
    let q = x.question in
    λ ls. next_stands q.core.now.positions q.premise.0 q.conclusion.0 (line_view c.args.line.now)
    (stage_of x.judge) (stage_of c.take.new.self) x.lines c.in-Ok.ensures.taken x.fault ls c.in_default.is

pub returns-in-Err-clause-stands : goal.returns-in-Err-clause-stands
returns-in-Err-clause-stands c =
    let x = c.args.self.now in
    let q = x.question in
    λ ls. broken_stands q.core.now.positions q.premise.0 q.conclusion.0 (line_view c.args.line.now)
    (stage_of x.judge) (stage_of c.take.new.self) x.lines x.lines ls c.in-Err.fault c.fault_at-told.result x.fault
    c.in_default.is c.fault_at-told.ensures c.in-Err.ensures.broken

pub returns-in-Some-clause-next : goal.returns-in-Some-clause-next
returns-in-Some-clause-next c = told_next c.args.self.now c.in-Some.fault c.in-Some.is
