-- No row before is as required.
use Rattle.std.proofs.Common.{◌≡◌, ℕ, ◌<◌, [], get_or, false}
use Rattle.js_automaton.specs.AutomatonView.{rows_of}
use Rattle.js_asked.specs.Asking.{asks}
use Rattle.js_strings.proofs.rows.first_row.Given as goal

abbrev pub invariant-loop-row : goal.invariant-loop-row
invariant-loop-row l = (j : ℕ) → j < l.row → asks l.asked (get_or (rows_of l.automaton) j []) ≡ false
