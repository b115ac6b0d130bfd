use Rattle.std.proofs.Common.{nat_lt, arith, rules, tests}
use Rattle.std.proofs.lemmas.Bool.{ltb-true, ltb-false}
use Rattle.std.proofs.lemmas.List.Sorted.{IsPartitionPoint-from_clause}
use Rattle.js_automaton.proofs.PieceLemmas.{rising-parted}
use Rattle.js_automaton.proofs.pieces.count_before.Goals as goal

pub returns-clause-before : goal.returns-clause-before
returns-clause-before c i l =
    let point = IsPartitionPoint-from_clause (λ x. nat_lt x c.args.place) _ _ c.partition_point.ensures.partitioned
    (rising-parted c.args.starts.now c.args.place c.requires) (λ a r q k. search (rules, tests)) in
    ltb-true _ _ (point.0 i 0 (omega arith) l)

pub returns-clause-after : goal.returns-clause-after
returns-clause-after c i l within =
    let point = IsPartitionPoint-from_clause (λ x. nat_lt x c.args.place) _ _ c.partition_point.ensures.partitioned
    (rising-parted c.args.starts.now c.args.place c.requires) (λ a r q k. search (rules, tests)) in
    ltb-false _ _ (point.1 i 0 l within)
