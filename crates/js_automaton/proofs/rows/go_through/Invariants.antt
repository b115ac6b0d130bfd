use Rattle.std.proofs.Common.{◌≡◌, ◌≤◌, length, get_or}
use Rattle.js_automaton.specs.declared.state.TupleState.{TupleState}
use Rattle.js_automaton.specs.Building.{IsFound}
use Rattle.js_automaton.specs.Follows.{AreFollows}
use Rattle.js_automaton.specs.TuplesView.{atoms_of}
use Rattle.js_automaton.proofs.rows.go_through.Given as goal

abbrev pub invariant-loop-class : goal.invariant-loop-class
invariant-loop-class l =
    IsFound (atoms_of l.tuples) l.states.keys l.targets.items l.row l.class × (length l.states.keys ≤ 65536)
    × ((s : TupleState) → s ≡ get_or l.states.keys l.row s
    → AreFollows l.tuples.patterns.items s.patterns.items l.follows.items)
