-- The nodes are those of a table.
use Rattle.std.proofs.Common.{◌++◌, ◌∷◌, [], map, true, length, ap, ap₂, ◌∙◌, arith}
use Rattle.std.proofs.lemmas.List.{map-append, length-map, length-replicate}
use Rattle.positions.specs.Position.{BoolIs, is_table}
use Rattle.js_algebra.specs.View.{node_view}
use Rattle.search_tests.proofs.Truths.{truths_table, replicate_last}
use Rattle.search_tests.proofs.decide.goals.Goals as goal

pub loop-i-preserved : goal.loop-i-preserved
loop-i-preserved c =
    let i = c.loop-i.i in
    record {
      nodes = ap (map node_view) c.in_ok-push.ensures.items ∙ map-append node_view c.loop-i.nodes.items _
          ∙ ap (λ z. z ++ BoolIs true ∷ []) c.loop-i.invariant.nodes
          ∙ replicate_last (BoolIs true) i _ (omega arith);
      ranks = c.in_ok-push-2.ensures.items ∙ ap (λ z. z ++ 0 ∷ []) c.loop-i.invariant.ranks
          ∙ replicate_last 0 i _ (omega arith);
    }

pub make-requires-clause-table : goal.make-requires-clause-table
make-requires-clause-table c =
    ap₂ is_table (ap (map node_view) c.from_vec.ensures ∙ c.loop-i.invariant.nodes)
    (c.from_vec-2.ensures ∙ c.loop-i.invariant.ranks)
    ∙ truths_table c.loop-i.i

pub make-requires-clause-small : goal.make-requires-clause-small
make-requires-clause-small c =
    let i = c.loop-i.i in
    let all = ap length c.from_vec.ensures in
    let seen = length-map c.loop-i.nodes.items node_view in
    let many = ap length c.loop-i.invariant.nodes in
    let end = c.loop-i.auto.i-end in
    omega (arith, all, seen, many, length-replicate i (BoolIs true), end)
