-- The atoms before have their rows.
use Rattle.std.proofs.Common.{◌≡◌, ◌<◌, ℕ, [], length, get_or}
use Rattle.js_automaton.specs.AutomatonView.{atoms_of, rows_of}
use Rattle.js_cells.specs.Truths.{IsTruth}
use Rattle.js_cells.proofs.truths.Truths.new.Given as goal

abbrev pub invariant-loop-number : goal.invariant-loop-number
invariant-loop-number l = record {
  count : length l.lists.items ≡ l.number;
  each : (k : ℕ) → k < l.number
      → IsTruth (atoms_of l.automaton) (rows_of l.automaton) k (get_or l.lists.items k []);
}
