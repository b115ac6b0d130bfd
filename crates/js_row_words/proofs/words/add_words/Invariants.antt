-- So many words are added.
use Rattle.std.proofs.Common.{◌≡◌, ◌++◌, map}
use Rattle.std.specs.List.{range_with_len}
use Rattle.js_automaton.specs.AutomatonView.{atoms_of, rows_of}
use Rattle.js_row_words.specs.Counts.{word_by}
use Rattle.js_row_words.proofs.words.add_words.Given as goal

abbrev pub invariant-loop-number : goal.invariant-loop-number
invariant-loop-number l =
    l.words.items ≡ l.fn.words.items
    ++ map (word_by (atoms_of l.automaton) (rows_of l.automaton) l.lengths) (range_with_len 0 l.number)
