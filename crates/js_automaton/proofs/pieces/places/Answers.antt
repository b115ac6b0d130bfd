use Rattle.js_automaton.proofs.PieceLemmas.{places-start, places-next, places-all}
use Rattle.js_automaton.proofs.pieces.places.Goals as goal

pub loop-set-init : goal.loop-set-init
loop-set-init c =
    places-start c.in_ok-places.places.items c.add_letters.new.places.items c.args.sets.now c.args.letters.now
    c.in_ok-places.ensures.items c.in_ok-add_letters.ensures.old c.in_ok-add_letters.ensures.each

pub loop-set-preserved : goal.loop-set-preserved
loop-set-preserved c =
    places-next c.loop-set.places.items _ c.args.sets.now c.args.letters.now c.loop-set.set-index
    c.set-item.result c.loop-set.invariant c.loop-set-test.true c.set-item.is c.in_ok-add_ends.ensures.old
    c.in_ok-add_ends.ensures.ends

pub returns : goal.returns
returns c =
    places-all c.loop-set.places.items c.args.sets.now c.args.letters.now c.loop-set.set-index c.loop-set.invariant
    c.loop-set-test.false
