-- The word of the row that was come to, and then the letters from the last to the first.
use Rattle.std.proofs.Common.{◌≡◌, ◌<◌, ◌++◌, [], length, get_or, reverse}
use Rattle.js_automaton.specs.AutomatonView.{rows_of}
use Rattle.js_row_words.proofs.spelling.letters_of.Given as goal

abbrev pub invariant-loop-at : goal.invariant-loop-at
invariant-loop-at l = record {
  within : l.at < length (rows_of l.automaton);
  word : get_or (rows_of l.automaton) l.at [] ++ reverse l.letters.items ≡ get_or (rows_of l.automaton) l.row [];
}

abbrev pub decreases-loop-at : goal.decreases-loop-at
decreases-loop-at l = length (get_or (rows_of l.automaton) l.at [])
