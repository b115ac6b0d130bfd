use Rattle.std.proofs.Common.{◌≡◌, ◌<◌, ◌∙◌, length, get_or, List, ap, arith}
use Rattle.js_nfa.specs.declared.nfa.Nfa.{Nfa}
use Rattle.js_automaton.proofs.TupleLemmas.{states-length, accepted-finds}
use Rattle.js_automaton.proofs.ToldLemmas.{tell-next}
use Rattle.js_automaton.proofs.tuples.Tuples.tell.Goals as goal

pub index-requires : goal.index-requires
index-requires c =
    let t = c.args.self.now in
    omega (
      arith,
      c.loop-place-test.true,
      ap (length {A = Nfa}) c.deref-nfa-items.ensures.value,
      states-length t.patterns.items t.parts.items t.places c.args.state.now c.requires.made.0 c.requires.made.1,
      c.args.state.now.patterns.ok,
    )

pub loop-place-preserved : goal.loop-place-preserved
loop-place-preserved c =
    let t = c.args.self.now in
    let n = c.nfa-item.result in
    let place = c.loop-place.place in
    let same = c.deref-nfa-items.ensures.value in
    let within : place < length t.patterns.items = omega (arith, c.loop-place-test.true, ap (length {A = Nfa}) same) in
    let at : n ≡ get_or t.patterns.items place n = c.nfa-item.is ∙ ap (λ (ns : List Nfa). get_or ns place n) same in (
      λ w h. c.push.ensures.flags
          ∙ tell-next c.args.told.now.flags c.loop-place.told.flags t.patterns.items w place n c.is_accepted.result within
          at
          (c.is_accepted.ensures
          ∙ accepted-finds t.patterns.items t.parts.items t.places c.args.state.now w place n c.index.result.now h within
          at c.index.ensures)
          (c.loop-place.invariant.0 w h),
      c.push.ensures.room ∙ c.loop-place.invariant.1,
    )
