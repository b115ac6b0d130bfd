use Rattle.std.proofs.Common.{◌≡◌, map, take}
use Rattle.js_schema.specs.View.{property_view}
use Rattle.js_normal.proofs.keywords.copied_names.Given as goal

abbrev pub invariant-loop-property : goal.invariant-loop-property
invariant-loop-property l =
    l.names.items ≡ map (λ p. p.0) (map property_view (take l.property-index l.property-items))
