use Rattle.js_automaton.proofs.NumberLemmas.{range-sides}
use Rattle.js_automaton.proofs.numbers.add_range.Goals as goal

pub returns-else-starts-i-clause-sides : goal.returns-else-starts-i-clause-sides
returns-else-starts-i-clause-sides c =
    range-sides c.args.starts.now c.loop-i.sides.items c.args.sides.now.items c.args.low c.args.high
    c.count_before-i.result c.loop-i.i c.requires.order c.count_before-i.ensures.before c.count_before-i.ensures.after
    c.loop-i.invariant.low (λ l. c.if-starts-i.false) c.loop-i.invariant.sides
