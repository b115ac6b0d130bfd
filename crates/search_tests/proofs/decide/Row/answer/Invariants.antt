-- What is left is still to be added.
use Rattle.std.proofs.Common.{◌≡◌, ◌++◌, map, drop}
use Rattle.js_expansion.specs.AlternativeView.{alternative_view}
use Rattle.search_tests.specs.Rows.{array_of, alternatives_of}
use Rattle.search_tests.proofs.decide.Row.answer.Given as goal

abbrev pub invariant-loop-element : goal.invariant-loop-element
invariant-loop-element l =
    map alternative_view l.alternatives.items ++ map array_of (drop l.element-index l.self.elements.items)
    ≡ alternatives_of l.self.has_null l.self.elements.items
