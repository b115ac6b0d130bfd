-- The patterns before have their flags, whatever the state's word is.
use Rattle.std.proofs.Common.{◌≡◌, ℕ, List, ◌++◌, map, take}
use Rattle.js_nfa.specs.View.{tree_of}
use Rattle.js_automaton.specs.Parts.{atoms_made}
use Rattle.js_automaton.specs.Told.{matches_in}
use Rattle.js_automaton.specs.Tuple.{IsStateOf}
use Rattle.js_automaton.proofs.tuples.Tuples.tell.Given as goal

abbrev pub invariant-loop-place : goal.invariant-loop-place
invariant-loop-place l =
    ((w : List ℕ) → IsStateOf (atoms_made l.self.patterns.items l.self.parts.items) l.state w
    → l.told.flags ≡ l.fn.told.flags ++ matches_in (take l.place (map tree_of l.self.patterns.items)) w)
    × (l.told.room ≡ l.fn.told.room)
