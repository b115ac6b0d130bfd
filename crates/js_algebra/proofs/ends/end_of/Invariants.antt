-- The references of `at` end where those of `x` do, within the steps that are left.
use Rattle.std.proofs.Common.{◌≡◌, ◌-◌, map, length, true}
use Rattle.goals.specs.Goal.{follow, follow_within}
use Rattle.js_algebra.specs.View.{node_view, signed_view, is_in_table}
use Rattle.js_algebra.proofs.ends.end_of.Given as goal

abbrev pub invariant-loop : goal.invariant-loop
invariant-loop l = record {
  within : follow_within (map node_view l.nodes) (l.end - l.counter) (signed_view l.at)
      ≡ follow (map node_view l.nodes) (signed_view l.fn.x);
  same : follow (map node_view l.nodes) (signed_view l.at) ≡ follow (map node_view l.nodes) (signed_view l.fn.x);
  in_table : is_in_table (map node_view l.nodes) (signed_view l.at) ≡ true;
  count : l.end ≡ length (map node_view l.nodes);
}
