use Rattle.std.proofs.Common.{◌≤◌, List, [], length, refl, ap, subst, arith}
use Rattle.js_nfa.specs.declared.nfa.Nfa.{Nfa}
use Rattle.js_automaton.proofs.TupleLemmas.{AreStates, states-all}
use Rattle.js_automaton.proofs.tuples.Tuples.start.Goals as goal

pub returns : goal.returns
returns c =
    let t = c.args.self.now in
    let all : length t.patterns.items ≤ c.loop-nfa.nfa-index =
    omega (arith, c.loop-nfa-test.false, ap (length {A = Nfa}) c.deref-nfa-items.ensures.value) in
    record {
      empty = refl;
      patterns =
          states-all t.patterns.items t.parts.items t.places c.loop-nfa.patterns.items [] c.loop-nfa.nfa-index all
          (subst (λ (ns : List Nfa). AreStates ns c.loop-nfa.patterns.items [] c.loop-nfa.nfa-index)
          c.deref-nfa-items.ensures.value c.loop-nfa.invariant);
      node = refl;
      length = omega arith;
    }
