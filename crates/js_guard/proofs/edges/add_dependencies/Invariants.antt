-- The schemas of the dependencies so far are there.
use Rattle.std.proofs.Common.{◌≡◌, ◌++◌, map, drop}
use Rattle.schemas.specs.Schema.{of_needs}
use Rattle.js_schema.specs.View.{dependency_view}
use Rattle.js_guard.proofs.edges.add_dependencies.Given as goal

abbrev pub invariant-loop-dependency : goal.invariant-loop-dependency
invariant-loop-dependency l =
    l.row.items ++ of_needs (map dependency_view (drop l.dependency-index l.dependency-items))
    ≡ l.fn.row.items ++ of_needs (map dependency_view l.dependency-items)
