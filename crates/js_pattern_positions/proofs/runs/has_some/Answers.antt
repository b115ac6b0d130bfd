use Rattle.std.proofs.Common.{◌≡◌, ◌+◌, ◌-◌, ◌∙◌, ap, arith}
use Rattle.state_laws.specs.Flow.{flag_at}
use Rattle.js_pattern_positions.specs.Walk.{some_in}
use Rattle.js_pattern_positions.proofs.CopiesLemmas.{some_in-found, some_in-later}
use Rattle.js_pattern_positions.proofs.runs.has_some.Goals as goal

pub returns-then-has_some_here : goal.returns-then-has_some_here
returns-then-has_some_here c =
    some_in-found (flag_at c.args.set.now.flags) c.min-part.result (c.args.from + c.args.count - c.loop-at.at)
    c.loop-at.at c.has_some_here.result (omega (arith, c.min-part.ensures)) c.has_some_here.ensures
    c.if-has_some_here.true
    ∙ c.loop-at.invariant.rest

pub loop-at-preserved : goal.loop-at-preserved
loop-at-preserved c =
    let less : c.args.from + c.args.count - (c.loop-at.at + c.min-part.result)
    ≡ c.args.from + c.args.count - c.loop-at.at - c.min-part.result = omega arith in
    record {
      within = omega (arith, c.min-part.ensures, c.loop-at.invariant.within);
      rest = ap (λ k. some_in (flag_at c.args.set.now.flags) k (c.loop-at.at + c.min-part.result)) less
          ∙ some_in-later (flag_at c.args.set.now.flags) c.min-part.result (c.args.from + c.args.count - c.loop-at.at)
          c.loop-at.at c.has_some_here.result (omega (arith, c.min-part.ensures)) c.has_some_here.ensures
          c.if-has_some_here.false
          ∙ c.loop-at.invariant.rest;
    }
