-- The references of `at` end where those of `x` do, and what is known stays known.
use Rattle.std.proofs.Common.{◌≡◌, map, true}
use Rattle.goals.specs.Goal.{follow}
use Rattle.js_algebra.specs.View.{node_view, signed_view, is_in_table}
use Rattle.js_algebra.specs.Ends.{AreLeft}
use Rattle.js_algebra.proofs.ends.leave.Given as goal

abbrev pub invariant-loop : goal.invariant-loop
invariant-loop l = record {
  same : signed_view l.fn.end ≡ follow (map node_view l.nodes) (signed_view l.at);
  in_table : is_in_table (map node_view l.nodes) (signed_view l.at) ≡ true;
  left : AreLeft (map node_view l.nodes) l.fn.x.pos.0 (map signed_view l.fn.ends) (map signed_view l.ends);
}
