-- What was kept, with the kinds that are left, is the expansion.
use Rattle.std.proofs.Common.{◌≡◌, flat_map, map, drop}
use Rattle.alternatives.specs.Expansion.{keep_all}
use Rattle.expansions.specs.Expansion.{at_kind}
use Rattle.js_algebra.specs.View.{kind_view}
use Rattle.js_expander.specs.Found.{leaf_of, goal_expansion}
use Rattle.js_expander.proofs.core_expander.CoreExpanderExpander.expand.Given as goal

abbrev pub invariant-loop-kind : goal.invariant-loop-kind
invariant-loop-kind l =
    let T = l.self.core.now.positions in
    keep_all l.kept (flat_map (at_kind T (leaf_of T) l.goal) (map kind_view (drop l.kind-index l.kind-items)))
    ≡ goal_expansion T l.goal
