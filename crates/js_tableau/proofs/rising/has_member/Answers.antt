-- The lesser members end where `x` is, if it is a member.
use Rattle.std.proofs.Common.{rules, ◌≡◌, nat_lt, true, false, get_or, ◌∙◌}
use Rattle.std.specs.List.Sorted.{IsPartitionPoint}
use Rattle.std.proofs.lemmas.Bool.{le-ltb}
use Rattle.std.proofs.lemmas.List.Sorted.{IsPartitionPoint-from_clause}
use Rattle.js_algebra.specs.declared.signed.Signed.{Signed}
use Rattle.js_algebra.proofs.Sorting.{same_fields}
use Rattle.js_tableau.proofs.Searched.{same_place}
use Rattle.js_tableau.proofs.Searched.{number, parted, has_none, has_here}
use Rattle.js_tableau.proofs.rising.has_member.Goals as goal

pub returns-then-place-items : goal.returns-then-place-items
returns-then-place-items c =
    let point : IsPartitionPoint (λ y. nat_lt (number y) (number c.args.x) ≡ true)
    (λ y. nat_lt (number y) (number c.args.x) ≡ false) c.args.items.now c.partition_point-place.result =
    IsPartitionPoint-from_clause (λ y. nat_lt (number y) (number c.args.x)) _ _
    c.partition_point-place.ensures.partitioned (parted c.args.items.now (number c.args.x) c.requires)
    (λ a r q k. search rules) in
    let any : Signed = record { pos = record { 0 = 0 }; plus = false } in
    let y = get_or c.args.items.now c.partition_point-place.result any in
    c.eq.ensures ∙ same_fields y.plus c.args.x.plus y.pos.0 c.args.x.pos.0
    ∙ has_here c.args.x c.args.items.now c.partition_point-place.result c.requires point y c.if-place-items.true
    (same_place c.args.items.now c.partition_point-place.result any y c.if-place-items.true)

pub returns-else-place-items : goal.returns-else-place-items
returns-else-place-items c =
    let point : IsPartitionPoint (λ y. nat_lt (number y) (number c.args.x) ≡ true)
    (λ y. nat_lt (number y) (number c.args.x) ≡ false) c.args.items.now c.partition_point-place.result =
    IsPartitionPoint-from_clause (λ y. nat_lt (number y) (number c.args.x)) _ _
    c.partition_point-place.ensures.partitioned (parted c.args.items.now (number c.args.x) c.requires)
    (λ a r q k. search rules) in
    le-ltb _ _ c.if-place-items.false
    ∙ has_none c.args.x c.args.items.now c.partition_point-place.result c.requires point c.if-place-items.false
