-- The words before have their rows.
use Rattle.std.proofs.Common.{◌≡◌, map, take, true}
use Rattle.std.specs.List.{list_all}
use Rattle.patterns.specs.CharSet.{is_scalar}
use Rattle.word_states.specs.Rows.{row_of}
use Rattle.js_automaton.specs.AutomatonView.{atoms_of, rows_of}
use Rattle.js_cells.proofs.truths.rows_of_words.Given as goal

abbrev pub invariant-loop-word : goal.invariant-loop-word
invariant-loop-word l = record {
  words : list_all (list_all is_scalar) (take l.word-index l.words) ≡ true;
  rows : l.rows.items ≡ map (row_of (atoms_of l.automaton) (rows_of l.automaton)) (take l.word-index l.words);
}
