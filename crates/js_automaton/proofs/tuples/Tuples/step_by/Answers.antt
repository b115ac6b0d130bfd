use Rattle.std.proofs.Common.{◌≡◌, ◌≤◌, ◌<◌, ◌∙◌, ◌+◌, ◌∷◌, ◌++◌, [], List, length, get_or, refl, sym, ap, subst, arith}
use Rattle.js_nfa.specs.declared.nfa.Nfa.{Nfa}
use Rattle.js_nfa.specs.declared.state.PatternState.{PatternState}
use Rattle.js_automaton.specs.TuplesView.{atoms_of}
use Rattle.js_automaton.proofs.TupleLemmas.{AreStates, states-all, states-length, states-next, states-step, first-alike}
use Rattle.js_automaton.proofs.tuples.Tuples.step_by.Goals as goal

pub index-requires-in-loop-i : goal.index-requires-in-loop-i
index-requires-in-loop-i c =
    let t = c.args.self.now in
    omega (
      arith,
      c.loop-i-test.true,
      ap (length {A = Nfa}) c.deref-nfa-items.ensures.value,
      states-length t.patterns.items t.parts.items t.places c.args.state.now c.requires.made.0 c.requires.made.1,
      c.args.state.now.patterns.ok,
    )

pub loop-i-preserved : goal.loop-i-preserved
loop-i-preserved c = λ w h.
    let t = c.args.self.now in
    let n = c.nfa-item.result in
    let same = c.deref-nfa-items.ensures.value in
    let within : c.loop-i.i < length t.patterns.items = omega (arith, c.loop-i-test.true, ap (length {A = Nfa}) same) in
    let at : n ≡ get_or t.patterns.items c.loop-i.i n =
    c.nfa-item.is ∙ ap (λ (ns : List Nfa). get_or ns c.loop-i.i n) same in
    subst (λ (ss : List PatternState). AreStates c.deref-nfa-items.result.now ss (w ++ c.index.result.now.first ∷ [])
    (c.loop-i.i + 1)) (sym {A = List PatternState} c.in_ok-push.ensures.items)
    (states-step c.deref-nfa-items.result.now c.loop-i.patterns.items (w ++ c.index.result.now.first ∷ []) c.loop-i.i
    n c.in_ok-next_of.field-0 c.loop-i-test.true c.nfa-item.is
    (states-next t.patterns.items t.parts.items t.places c.args.state.now w c.loop-i.i n c.index-in-loop-i.result.now
    c.in_ok-next_of.field-0 c.args.state.now.is_empty c.index.result.now.first h within at
    c.index-in-loop-i.ensures refl c.in_ok-next_of.ensures)
    (c.loop-i.invariant w h))

pub returns : goal.returns
returns c = λ w d h k.
    let t = c.args.self.now in
    let first = c.index.result.now.first in
    let all : length t.patterns.items ≤ c.loop-i.i =
    omega (arith, c.loop-i-test.false, ap (length {A = Nfa}) c.deref-nfa-items.ensures.value) in
    c.state_after.ensures w d h
    (states-all t.patterns.items t.parts.items t.places c.loop-i.patterns.items (w ++ first ∷ []) c.loop-i.i all
    (subst (λ (ns : List Nfa). AreStates ns c.loop-i.patterns.items (w ++ first ∷ []) c.loop-i.i)
    c.deref-nfa-items.ensures.value (c.loop-i.invariant w h)))
    (first-alike (atoms_of t) t.classes.items c.args.class c.index.result.now d t.firsts c.requires.class
    c.index.ensures k)

pub next_of-requires : goal.next_of-requires
next_of-requires c =
    let ns = c.args.self.now.patterns.items in
    let n = c.nfa-item.result in
    let same = c.deref-nfa-items.ensures.value in
    let within : c.loop-i.i < length ns = omega (arith, c.loop-i-test.true, ap (length {A = Nfa}) same) in
    let at : n ≡ get_or ns c.loop-i.i n = c.nfa-item.is ∙ ap (λ (ms : List Nfa). get_or ms c.loop-i.i n) same in
    c.requires.follows.1 c.loop-i.i n c.index-in-loop-i.result.now c.index-follows-i.result within at
    c.index-in-loop-i.ensures c.index-follows-i.is
