use Rattle.std.proofs.Common.{◌≡◌, map, take}
use Rattle.js_algebra.specs.View.{pattern_view}
use Rattle.js_algebra.proofs.lists.PatternList.copy.Given as goal

abbrev pub invariant-loop-pattern : goal.invariant-loop-pattern
invariant-loop-pattern l = map pattern_view l.copies.items ≡ map pattern_view (take l.pattern-index l.pattern-items)
