use Rattle.std.proofs.Common.{◌≡◌, map, drop}
use Rattle.normal_forms.specs.Nodes.{each}
use Rattle.normal_forms.specs.KeywordNodes.{dependency_node}
use Rattle.js_schema.specs.View.{dependency_view}
use Rattle.js_values.specs.Runs.{run}
use Rattle.js_normal.proofs.keywords.dependency_nodes.Given as goal

abbrev pub invariant-loop-dependency : goal.invariant-loop-dependency
invariant-loop-dependency l =
    run (each dependency_node (map dependency_view l.dependency-items)) l.fn.sink
    ≡ run (each dependency_node (map dependency_view (drop l.dependency-index l.dependency-items)))
    l.sink
