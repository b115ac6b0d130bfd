-- The chain so far, with its ranks.
use Rattle.std.proofs.Common.{◌≡◌, map}
use Rattle.positions.specs.Position.{Not}
use Rattle.js_algebra.specs.View.{node_view}
use Rattle.js_algebra.proofs.Chains.{chain, numbers}
use Rattle.low_tests.proofs.algebra.chain.Given as goal

abbrev pub invariant-loop-k : goal.invariant-loop-k
invariant-loop-k l = record {
  positions : map node_view l.nodes.items ≡ chain Not l.k;
  ranks : l.ranks.items ≡ numbers l.k;
}
