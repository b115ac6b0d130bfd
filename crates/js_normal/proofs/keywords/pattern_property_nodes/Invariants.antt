use Rattle.std.proofs.Common.{◌≡◌, map, drop}
use Rattle.normal_forms.specs.Nodes.{node, each}
use Rattle.positions.specs.Position.{MembersOf, Matching}
use Rattle.normal_forms.specs.KeywordNodes.{pattern_of}
use Rattle.js_schema.specs.View.{pattern_property_view}
use Rattle.js_normal.specs.PatternTrees.{tree_of}
use Rattle.js_values.specs.Runs.{run}
use Rattle.js_normal.proofs.keywords.pattern_property_nodes.Given as goal

abbrev pub invariant-loop-property : goal.invariant-loop-property
invariant-loop-property l =
    run (each (λ p. node (MembersOf (Matching (pattern_of tree_of p.0)) p.1))
    (map pattern_property_view l.property-items)) l.fn.sink
    ≡ run (each (λ p. node (MembersOf (Matching (pattern_of tree_of p.0)) p.1))
    (map pattern_property_view (drop l.property-index l.property-items)))
    l.sink
