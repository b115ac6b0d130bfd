use Rattle.std.proofs.Common.{◌∙◌, ◌++◌, ◌+◌, length, map, ap}
use Rattle.js_algebra.specs.View.{node_view}
use Rattle.position_laws.specs.Join.{moved}
use Rattle.position_laws.proofs.Joined.{holds-joined_left, holds-joined_right}
use Rattle.positions.specs.Holds.{holds}
use Rattle.js_normal.proofs.Joins.{joined-built, joined-table}
use Rattle.js_normal.proofs.join.join_tables.Goals as goal

pub make-requires-clause-table : goal.make-requires-clause-table
make-requires-clause-table c =
    joined-table c.args.a.now.positions c.args.b.now.positions (map node_view c.from_vec-nodes.result)
    c.args.a.now.ranks c.args.b.now.ranks c.from_vec.result c.append.new.ranks.items
    (joined-built c.args.a.now.positions c.args.b.now.positions _
    (map node_view c.append.new.nodes.items) c.len-5.result
    c.len-5.ensures.value
    (c.in_ok-append.ensures.nodes ∙ ap (λ xs. map node_view xs ++ map (moved 0) c.args.a.now.positions)
    c.in_ok-nodes.ensures.items)
    (ap (map node_view) c.from_vec-nodes.ensures ∙ c.in_ok-append-2.ensures.nodes))
    (c.in_ok-append.ensures.ranks ∙ ap (λ xs. xs ++ c.args.a.now.ranks) c.in_ok-ranks.ensures.items)
    (c.from_vec.ensures ∙ c.in_ok-append-2.ensures.ranks)
    c.len.ensures.table c.len-2.ensures.table

pub returns-clause-positions : goal.returns-clause-positions
returns-clause-positions c =
    joined-built c.args.a.now.positions c.args.b.now.positions _ (map node_view c.append.new.nodes.items) c.len-5.result
    c.len-5.ensures.value
    (c.in_ok-append.ensures.nodes ∙ ap (λ xs. map node_view xs ++ map (moved 0) c.args.a.now.positions)
    c.in_ok-nodes.ensures.items)
    (c.in_ok-core.ensures.positions ∙ ap (map node_view) c.from_vec-nodes.ensures ∙ c.in_ok-append-2.ensures.nodes)

pub returns-clause-first_means : goal.returns-clause-first_means
returns-clause-first_means c = λ p J l.
    ap (λ T. holds T p J) (returns-clause-positions c)
    ∙ holds-joined_left c.args.a.now.positions c.args.b.now.positions c.args.a.now.ranks c.args.b.now.ranks
    c.len.ensures.table c.len-2.ensures.table p J l

pub returns-clause-second_means : goal.returns-clause-second_means
returns-clause-second_means c = λ p J l.
    ap (λ T. holds T (length c.args.a.now.positions + p) J) (returns-clause-positions c)
    ∙ holds-joined_right c.args.a.now.positions c.args.b.now.positions c.args.a.now.ranks c.args.b.now.ranks
    c.len.ensures.table c.len-2.ensures.table p J l
