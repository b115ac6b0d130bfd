use Rattle.js_automaton.proofs.NumberLemmas.{numbers-next, numbers-all, split-read}
use Rattle.js_automaton.proofs.numbers.numbers.Goals as goal

pub loop-set-preserved : goal.loop-set-preserved
loop-set-preserved c =
    let split = split-read c.loop-set.numbers.items c.in_ok-sides.sides.items c.deref.result.now
    c.deref-in-loop-set.result.now
    c.in_ok-numbers-2.numbers.items c.deref.ensures.value c.deref-in-loop-set.ensures.value
    (c.in_ok-numbers-2.ensures.length, c.in_ok-numbers-2.ensures.numbers) in
    numbers-next c.args.starts.now c.loop-set.numbers.items c.in_ok-sides.sides.items c.in_ok-numbers-2.numbers.items
    c.args.sets.now c.args.letters.now c.loop-set.set-index c.set-item.result c.loop-set.invariant c.loop-set-test.true
    c.set-item.is c.in_ok-sides.ensures split.0 split.1

pub returns : goal.returns
returns c =
    numbers-all c.args.starts.now c.loop-set.numbers.items c.args.sets.now c.args.letters.now c.loop-set.set-index
    c.loop-set.invariant c.loop-set-test.false
