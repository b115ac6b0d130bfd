use Rattle.std.proofs.Common.{refl}
use Rattle.js_automaton.proofs.NumberLemmas.{keyed-none, keyed-insert, keyed-all}
use Rattle.js_automaton.proofs.numbers.renumber.Goals as goal

pub loop-i-init : goal.loop-i-init
loop-i-init c =
    keyed-none c.args.old.now c.args.sides.now c.new-keys.result.keys c.in_ok-new.new.items c.new-keys.ensures.unique
    c.in_ok-new.ensures.items

pub loop-i-preserved : goal.loop-i-preserved
loop-i-preserved c =
    keyed-insert c.args.old.now c.args.sides.now c.loop-i.keys.keys c.insert_full.new.self.keys c.loop-i.new.items
    c.push.new.self.items c.loop-i.i c.in_ok-place.place _ c.loop-i.invariant refl c.in_ok-place.ensures.unique
    c.in_ok-place.ensures.keys c.in_ok-place.ensures.stored c.in_ok-push.ensures.items

pub returns-clause-numbers : goal.returns-clause-numbers
returns-clause-numbers c =
    keyed-all c.args.old.now c.args.sides.now c.loop-i.keys.keys c.loop-i.new.items c.loop-i.i c.loop-i.invariant
    c.loop-i-test.false
