-- The rows before were tested.
use Rattle.std.proofs.Common.{[], get_or, nat_lt, true, ◌&&◌}
use Rattle.documents.specs.Document.{string}
use Rattle.positions.specs.Holds.{holds}
use Rattle.js_automaton.specs.AutomatonView.{rows_of}
use Rattle.js_cells.specs.Told.{AreSet}
use Rattle.js_cells.proofs.telling.tell_plan.Given as goal

abbrev pub invariant-loop-row : goal.invariant-loop-row
invariant-loop-row l =
    AreSet (λ r. nat_lt r l.row && holds l.core.positions l.plan.root (string (get_or (rows_of l.automaton) r [])))
    true l.place l.initial.told.items l.told.items
