use Rattle.std.proofs.Common.{◌<◌, ◌∙◌, ◌-◌, ap, arith}
use Rattle.std.proofs.lemmas.Result.{IfOk-weaker}
use Rattle.patterns.specs.CharSet.{has}
use Rattle.js_automaton.proofs.PieceSetLemmas.{class-all, piece-counted}
use Rattle.js_automaton.proofs.class_set.class_of.Goals as goal

pub returns : goal.returns
returns c =
    IfOk-weaker c.set_of.result _ _
    (λ set e test n.
    let top : c.args.c < 0x110000 = omega (arith, c.ranges.c) in
    let (some, here) = piece-counted test c.args.starts.now c.args.c c.count_before-count.result n.places top
    c.count_before-count.ensures.before c.count_before-count.ensures.after in
    class-all test c.args.starts.now c.args.numbers.now c.in_ok-ranges.ranges.items set c.args.c
    (c.count_before-count.result - 1) n c.in_ok-ranges.ensures.ranges top here c.in_ok-ranges.ensures.pieces
    (λ d. e d ∙ ap (λ rs. has rs d) c.deref.ensures.value))
    c.set_of.ensures
