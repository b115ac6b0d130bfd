-- There is a mark for each row so far.
use Rattle.std.proofs.Common.{◌≡◌, length}
use Rattle.low_tests.proofs.row_words.numbers.Given as goal

abbrev pub invariant-loop-row : goal.invariant-loop-row
invariant-loop-row l = length l.marks.items ≡ l.row
