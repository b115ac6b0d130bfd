-- The sum so far and the runs that are left decide.
use Rattle.std.proofs.Common.{◌≡◌, ◌≤◌, ◌+◌, drop, get_or, min}
use Rattle.list_laws.proofs.Counts.{sum_over}
use Rattle.word_states.specs.Classes.{characters}
use Rattle.js_automaton.specs.AutomatonView.{atoms_of, rows_of}
use Rattle.js_row_words.specs.Runs.{AreRuns, spelled}
use Rattle.js_row_words.specs.Counts.{to_row}
use Rattle.js_row_words.proofs.numbers.sum.Given as goal

abbrev pub invariant-loop-run : goal.invariant-loop-run
invariant-loop-run l = record {
  same : min l.bound (l.sum + sum_over
      (λ c. get_or l.numbers (to_row (atoms_of l.automaton) (rows_of l.automaton) l.row c) 0)
      (spelled (drop l.run-index l.runs)))
      ≡ min l.bound (sum_over
      (λ c. get_or l.numbers (to_row (atoms_of l.automaton) (rows_of l.automaton) l.row c) 0) characters);
  small : l.sum ≤ l.bound;
  runs : AreRuns (atoms_of l.automaton) (drop l.run-index l.runs);
}
