use Rattle.std.proofs.Common.{int_lt, rules}
use Rattle.std.proofs.lemmas.List.Sorted.{IsPartitionPoint-from_clause}
use Rattle.js_doc.proofs.Ranks.{parted_by, parts_at}
use Rattle.js_doc.proofs.numbers.count_below.Goals as goal

pub returns-clause-parts : goal.returns-clause-parts
returns-clause-parts c =
    let s = c.args.ascending.now in
    parts_at s c.args.n c.partition_point.result
    (IsPartitionPoint-from_clause (λ y. int_lt y c.args.n) _ _ c.partition_point.ensures.partitioned
    (parted_by s c.requires c.args.n) (λ a r q k. search rules))
