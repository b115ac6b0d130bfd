use Rattle.std.proofs.Common.{◌≡◌, ◌++◌, map, drop}
use Rattle.js_schema.specs.View.{pattern_property_view}
use Rattle.js_match.specs.Matching.{matches}
use Rattle.js_valid.specs.Parts.{of_named}
use Rattle.js_valid.proofs.ask.add_found.Given as goal

abbrev pub invariant-loop-property : goal.invariant-loop-property
invariant-loop-property l =
    l.found.items ++ (of_named (λ t. matches t l.name) (map pattern_property_view (drop
    l.property-index l.property-items)))
    ≡ l.fn.found.items ++ (of_named (λ t. matches t l.name) (map pattern_property_view l.property-items))
