use Rattle.std.proofs.Common.{◌≡◌, ℕ, ◌||◌, map, drop}
use Rattle.schemas.specs.Schema.{of_needs}
use Rattle.js_schema.specs.View.{dependency_view}
use Rattle.js_match.specs.Places.{is_at}
use Rattle.js_valid.specs.AskedEntries.{placed}
use Rattle.js_valid.proofs.asked.add_needs.Given as goal

abbrev pub invariant-loop-dependency : goal.invariant-loop-dependency
invariant-loop-dependency l =
    (k : ℕ) → (is_at k l.pending || is_at k (placed l.plan.places.items
    (of_needs (map dependency_view (drop l.dependency-index l.dependency-items)))))
    ≡ (is_at k l.fn.pending || is_at k (placed l.plan.places.items (of_needs (map dependency_view l.dependency-items))))
