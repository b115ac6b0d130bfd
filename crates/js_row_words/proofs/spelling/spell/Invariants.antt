-- The text, and then the letters that are left from the last to the first.
use Rattle.std.proofs.Common.{◌≡◌, ◌++◌, length, reverse, encode_utf8_all, string_bytes}
use Rattle.js_row_words.proofs.spelling.spell.Given as goal

abbrev pub invariant-loop-letter : goal.invariant-loop-letter
invariant-loop-letter l =
    string_bytes l.text ++ encode_utf8_all (reverse l.letters.items) ≡ encode_utf8_all (reverse l.fn.letters.items)

abbrev pub decreases-loop-letter : goal.decreases-loop-letter
decreases-loop-letter l = length l.letters.items
