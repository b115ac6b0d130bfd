use Rattle.std.proofs.Common.{◌≡◌, ◌<◌, ◌+◌, ◌∷◌, [], ◌∙◌, List, Option, length, get_or, ap, subst, arith, length-append}
use Rattle.js_pattern_positions.specs.Marks.{Marks}
use Rattle.js_nfa.specs.declared.nfa.Nfa.{Nfa}
use Rattle.js_automaton.specs.Follows.{AreFollowsTo}
use Rattle.js_automaton.proofs.TupleLemmas.{states-length}
use Rattle.js_automaton.proofs.FollowLemmas.{follows-none, follows-next}
use Rattle.js_automaton.proofs.tuples.Tuples.follows.Goals as goal

pub loop-i-init : goal.loop-i-init
loop-i-init c = (
  ap (length {A = Option Marks}) c.in_ok-follows.ensures.items,
  follows-none c.args.self.now.patterns.items c.args.state.now.patterns.items c.in_ok-follows.follows.items,
)

pub index-requires : goal.index-requires
index-requires c =
    let t = c.args.self.now in
    omega (
      arith,
      c.loop-i-test.true,
      ap (length {A = Nfa}) c.deref-nfa-items.ensures.value,
      states-length t.patterns.items t.parts.items t.places c.args.state.now c.requires.0 c.requires.1,
      c.args.state.now.patterns.ok,
    )

pub loop-i-preserved : goal.loop-i-preserved
loop-i-preserved c =
    let t = c.args.self.now in
    let ns = t.patterns.items in
    let states = c.args.state.now.patterns.items in
    let n = c.nfa-item.result in
    let f = c.in_ok-follow.field-0 in
    let i = c.loop-i.i in
    let same = c.deref-nfa-items.ensures.value in
    let within : i < length ns = omega (arith, c.loop-i-test.true, ap (length {A = Nfa}) same) in
    let at : n ≡ get_or ns i n = c.nfa-item.is ∙ ap (λ (ms : List Nfa). get_or ms i n) same in
    let pushed = c.in_ok-push.ensures.items in (
      ap (length {A = Option Marks}) pushed ∙ length-append c.loop-i.follows.items (f ∷ [])
          ∙ ap (λ k. k + 1) c.loop-i.invariant.0,
      follows-next ns states c.loop-i.follows.items c.push.new.self.items i n c.index.result.now f
          c.loop-i.invariant.0 pushed within
          (omega (arith, within, states-length ns t.parts.items t.places c.args.state.now c.requires.0 c.requires.1))
          at c.index.ensures c.in_ok-follow.ensures c.loop-i.invariant.1,
    )

pub returns : goal.returns
returns c =
    let ns = c.args.self.now.patterns.items in
    let all : c.loop-i.i ≡ length ns =
    omega (arith, c.loop-i-test.false, c.loop-i.auto.i-end, ap (length {A = Nfa}) c.deref-nfa-items.ensures.value) in (
      c.loop-i.invariant.0 ∙ all,
      subst (AreFollowsTo ns c.args.state.now.patterns.items c.loop-i.follows.items) all c.loop-i.invariant.1,
    )
