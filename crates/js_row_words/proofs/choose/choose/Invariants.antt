-- The runs that are left decide.
use Rattle.std.proofs.Common.{◌≡◌, ℕ, List, drop, get_or}
use Rattle.word_states.specs.Classes.{characters}
use Rattle.cell_laws.specs.FirstWords.{pick}
use Rattle.js_automaton.specs.AutomatonView.{atoms_of, rows_of}
use Rattle.js_row_words.specs.Runs.{AreRuns, spelled}
use Rattle.js_row_words.specs.Counts.{to_row}
use Rattle.js_row_words.proofs.choose.choose.Given as goal

abbrev pub invariant-loop-run : goal.invariant-loop-run
invariant-loop-run l = record {
  same : (next : ℕ → ℕ → List ℕ)
      → pick (λ c. get_or l.numbers (to_row (atoms_of l.automaton) (rows_of l.automaton) l.row c) 0) next characters
      l.number
      ≡ pick (λ c. get_or l.numbers (to_row (atoms_of l.automaton) (rows_of l.automaton) l.row c) 0) next
      (spelled (drop l.run-index l.runs)) l.left;
  runs : AreRuns (atoms_of l.automaton) (drop l.run-index l.runs);
}
