use Rattle.std.proofs.Common.{◌≡◌, length}
use Rattle.js_automaton.proofs.NumberLemmas.{RestSides}
use Rattle.js_automaton.proofs.numbers.sides.Given as goal

abbrev pub invariant-loop-range : goal.invariant-loop-range
invariant-loop-range l =
    (length l.sides.items ≡ length l.starts) × RestSides l.starts l.sides.items l.range-items l.range-index
