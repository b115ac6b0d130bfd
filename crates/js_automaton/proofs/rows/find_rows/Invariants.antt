use Rattle.std.proofs.Common.{◌≤◌, ◌-◌, length}
use Rattle.js_automaton.specs.TuplesView.{atoms_of}
use Rattle.js_automaton.proofs.RowsLemmas.{IsBetween}
use Rattle.js_automaton.proofs.rows.find_rows.Given as goal

abbrev pub invariant-loop-row : goal.invariant-loop-row
invariant-loop-row l =
    IsBetween (atoms_of l.tuples) l.states.keys l.targets.items l.row × (length l.states.keys ≤ 65536)

abbrev pub decreases-loop-row : goal.decreases-loop-row
decreases-loop-row l = 65536 - l.row
