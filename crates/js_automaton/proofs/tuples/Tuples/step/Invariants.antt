use Rattle.std.proofs.Common.{ℕ, List, [], ◌∷◌, ◌++◌}
use Rattle.js_automaton.specs.Parts.{atoms_made}
use Rattle.js_automaton.specs.Tuple.{IsStateOf}
use Rattle.js_automaton.proofs.TupleLemmas.{AreStates}
use Rattle.js_automaton.proofs.tuples.Tuples.step.Given as goal

abbrev pub invariant-loop-i : goal.invariant-loop-i
invariant-loop-i l =
    (w : List ℕ) → IsStateOf (atoms_made l.self.patterns.items l.self.parts.items) l.state w
    → AreStates l.nfa-items l.patterns.items (w ++ l.c ∷ []) l.i
