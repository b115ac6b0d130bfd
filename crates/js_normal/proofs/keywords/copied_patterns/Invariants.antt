use Rattle.std.proofs.Common.{◌≡◌, map, take}
use Rattle.normal_forms.specs.KeywordNodes.{pattern_of}
use Rattle.js_algebra.specs.View.{pattern_view}
use Rattle.js_schema.specs.View.{pattern_property_view}
use Rattle.js_normal.specs.PatternTrees.{tree_of}
use Rattle.js_normal.proofs.keywords.copied_patterns.Given as goal

abbrev pub invariant-loop-property : goal.invariant-loop-property
invariant-loop-property l =
    map pattern_view l.patterns.items
    ≡ map (pattern_of tree_of) (map (λ p. p.0) (map pattern_property_view (take l.property-index l.property-items)))
