-- The chain is a table, with one position more than links.
use Rattle.std.proofs.Common.{◌∙◌, length, map, ap, ap₂, arith}
use Rattle.std.proofs.lemmas.List.{length-map}
use Rattle.positions.specs.Position.{is_table}
use Rattle.js_algebra.specs.View.{node_view}
use Rattle.js_algebra.proofs.Chains.{length-chain}
use Rattle.js_tableau.proofs.Chains.{twice, twice-is_table}
use Rattle.low_tests.proofs.tableau.chain.Goals as goal

pub make-requires-clause-table : goal.make-requires-clause-table
make-requires-clause-table c =
    ap₂ is_table (ap (map node_view) c.from_vec-nodes.ensures ∙ c.loop-k.invariant.positions)
    (c.from_vec.ensures ∙ c.loop-k.invariant.ranks) ∙ twice-is_table c.loop-k.k

pub make-requires-clause-small : goal.make-requires-clause-small
make-requires-clause-small c =
    omega (
      arith,
      ap length c.from_vec-nodes.ensures,
      length-map c.loop-k.nodes.items node_view,
      ap length c.loop-k.invariant.positions,
      length-chain twice c.loop-k.k,
      c.requires,
      c.loop-k.auto.k-end,
    )

pub returns : goal.returns
returns c =
    omega (
      arith,
      ap length c.in_ok-make.ensures.positions,
      ap length c.from_vec-nodes.ensures,
      length-map c.from_vec-nodes.result node_view,
      length-map c.loop-k.nodes.items node_view,
      ap length c.loop-k.invariant.positions,
      length-chain twice c.loop-k.k,
      c.loop-k.auto.k-end,
      c.loop-k-test.false,
    )
