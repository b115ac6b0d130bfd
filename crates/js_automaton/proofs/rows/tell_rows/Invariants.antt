-- The rows before have their flags.
use Rattle.std.proofs.Common.{◌≤◌, ◌*◌, length, map}
use Rattle.js_nfa.specs.View.{tree_of}
use Rattle.js_automaton.specs.TuplesView.{atoms_of}
use Rattle.js_automaton.proofs.ToldLemmas.{AreToldUpTo}
use Rattle.js_automaton.proofs.rows.tell_rows.Given as goal

abbrev pub invariant-loop-row : goal.invariant-loop-row
invariant-loop-row l =
    AreToldUpTo (atoms_of l.tuples) (map tree_of l.tuples.patterns.items) l.states.keys l.row l.told.flags
    × (length l.states.keys * length l.tuples.patterns.items ≤ l.told.room)
