-- The letters, and then the word that is left from the row that was come to, are the word.
use Rattle.std.proofs.Common.{◌≡◌, ◌≤◌, ◌<◌, ◌++◌, length, true}
use Rattle.std.specs.List.{list_all}
use Rattle.patterns.specs.CharSet.{is_scalar}
use Rattle.word_states.specs.Classes.{characters}
use Rattle.cell_laws.specs.FirstWords.{word_at}
use Rattle.js_automaton.specs.AutomatonView.{atoms_of, rows_of}
use Rattle.js_row_words.specs.Counts.{to_row, numbers_by, word_by}
use Rattle.js_row_words.proofs.words.letters_by.Given as goal

abbrev pub invariant-loop-left : goal.invariant-loop-left
invariant-loop-left l = record {
  left : l.left ≤ length l.lengths;
  row : l.row < length (rows_of l.automaton);
  word : l.letters.items
      ++ word_at characters (to_row (atoms_of l.automaton) (rows_of l.automaton)) (numbers_by l.lengths) l.left l.row
      l.number
      ≡ word_by (atoms_of l.automaton) (rows_of l.automaton) l.lengths l.fn.number;
  scalar : list_all is_scalar l.letters.items ≡ true;
}

abbrev pub decreases-loop-left : goal.decreases-loop-left
decreases-loop-left l = l.left
