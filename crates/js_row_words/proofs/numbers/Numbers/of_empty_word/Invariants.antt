-- The numbers of the rows before.
use Rattle.std.proofs.Common.{cond, get_or, false}
use Rattle.js_row_words.specs.Counts.{AreNumbers}
use Rattle.js_row_words.proofs.numbers.Numbers.of_empty_word.Given as goal

abbrev pub invariant-loop-mark : goal.invariant-loop-mark
invariant-loop-mark l = AreNumbers l.mark-index l.bound (λ r. cond (get_or l.marks r false) 1 0) l.of_rows.items
