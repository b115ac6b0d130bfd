-- So many truth values, each of rank 0; and the goals that are left are in the table.
use Rattle.std.proofs.Common.{◌≡◌, map, replicate, true}
use Rattle.positions.specs.Position.{BoolIs}
use Rattle.js_algebra.specs.View.{node_view}
use Rattle.search_tests.proofs.decide.goals.Given as goal

abbrev pub invariant-loop-i : goal.invariant-loop-i
invariant-loop-i l = record {
  nodes : map node_view l.nodes.items ≡ replicate l.i (BoolIs true);
  ranks : l.ranks.items ≡ replicate l.i 0;
}
