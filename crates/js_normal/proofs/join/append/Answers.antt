use Rattle.std.proofs.Common.{◌<◌, length, map, arith, ap, ◌∙◌}
use Rattle.std.proofs.lemmas.List.{map-append}
use Rattle.js_algebra.specs.View.{node_view}
use Rattle.position_laws.specs.Join.{moved}
use Rattle.js_normal.proofs.Joins.{names_below-room, take-moved, take-ranks, ranks-length}
use Rattle.js_normal.proofs.join.append.Goals as goal

pub moved_node-requires : goal.moved_node-requires
moved_node-requires c =
    let (here, parts) = names_below-room c.args.by (length c.args.core.now.positions) (node_view c.node.result.now)
    c.requires c.node.ensures.named in
    record { in_place = here; of_parts = parts }

pub loop-i-preserved : goal.loop-i-preserved
loop-i-preserved c =
    let size = c.len-i-end.ensures.value in
    let more = c.loop-i-test.true in
    let same = ranks-length c.args.core.now.positions c.args.core.now.ranks c.len-i-end.ensures.table in
    let in_nodes : c.loop-i.i < length c.args.core.now.positions = omega arith in
    let in_ranks : c.loop-i.i < length c.args.core.now.ranks = omega arith in
    record {
      nodes =
          ap (map node_view) c.in_ok-push.ensures.items
          ∙ map-append node_view c.loop-i.nodes.items _
          ∙ take-moved c.args.core.now.positions (moved c.args.by) c.loop-i.i (map node_view c.loop-i.nodes.items)
          (map node_view c.args.nodes.now.items) (node_view c.in_ok-moved_node.field-0) (node_view c.node.result.now)
          in_nodes c.node.ensures.value c.in_ok-moved_node.ensures c.loop-i.invariant.nodes;
      ranks =
          c.in_ok-push-2.ensures.items
          ∙ take-ranks c.args.core.now.ranks c.loop-i.i c.rank.result c.loop-i.ranks.items c.args.ranks.now.items
          in_ranks c.rank.ensures c.loop-i.invariant.ranks;
    }
