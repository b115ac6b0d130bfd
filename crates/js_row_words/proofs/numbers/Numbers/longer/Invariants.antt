-- The numbers of the rows before.
use Rattle.std.proofs.Common.{get_or}
use Rattle.list_laws.proofs.Counts.{sum_over}
use Rattle.word_states.specs.Classes.{characters}
use Rattle.js_automaton.specs.AutomatonView.{atoms_of, rows_of}
use Rattle.js_row_words.specs.Counts.{AreNumbers, to_row}
use Rattle.js_row_words.proofs.numbers.Numbers.longer.Given as goal

abbrev pub invariant-loop-row : goal.invariant-loop-row
invariant-loop-row l = AreNumbers l.row l.bound
    (λ r. sum_over (λ c. get_or l.self (to_row (atoms_of l.automaton) (rows_of l.automaton) r c) 0) characters)
    l.of_rows.items
