use Rattle.std.proofs.Common.{◌≡◌, ◌++◌, map, take}
use Rattle.position_laws.specs.Join.{moved}
use Rattle.js_algebra.specs.View.{node_view}
use Rattle.js_normal.proofs.join.append.Given as goal

abbrev pub invariant-loop-i : goal.invariant-loop-i
invariant-loop-i l = record {
  nodes : map node_view l.nodes.items ≡ map node_view l.fn.nodes.items ++ map (moved l.by) (take l.i l.core.positions);
  ranks : l.ranks.items ≡ l.fn.ranks.items ++ take l.i l.core.ranks;
}
