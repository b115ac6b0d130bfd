use Rattle.std.proofs.Common.{length}
use Rattle.js_automaton.proofs.letters.+letters_of_words.Given as goal

abbrev pub decreases-letters_of_words : goal.decreases-letters_of_words
decreases-letters_of_words l = length l.words.now
