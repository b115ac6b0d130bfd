-- The ranges from here on decide.
use Rattle.std.proofs.Common.{◌≡◌, drop}
use Rattle.patterns.specs.CharSet.{has}
use Rattle.js_row_words.proofs.runs.last_with.Given as goal

abbrev pub invariant-loop-range : goal.invariant-loop-range
invariant-loop-range l = has (drop l.range-index l.range-items) l.at ≡ has l.set l.at
