-- First places, then members.
use Rattle.std.proofs.Common.{◌≡◌, ◌++◌, [], map, reverse, length, arith, ap, ap₂, sym, ◌∙◌}
use Rattle.std.proofs.lemmas.List.{length-map, length-append}
use Rattle.std.specs.List.{range_with_len}
use Rattle.std.proofs.lemmas.List.FromFn.{length-range_with_len}
use Rattle.js_expansion.specs.View.{placed_view}
use Rattle.js_plans.specs.Servers.{servers_of}
use Rattle.js_plans.specs.Named.{naming_view, placed_from}
use Rattle.js_plans.proofs.Namings.{length-put_heads, length-put_members, cells-few}
use Rattle.js_plans.proofs.alternative_list.placed.Goals as goal

pub add_placed-requires-clause-same : goal.add_placed-requires-clause-same
add_placed-requires-clause-same c =
    ap length c.in_ok-heads.ensures ∙ length-put_heads c.args.path.now c.args.first.now
    ∙ sym (ap length (c.as_slice.ensures.value ∙ c.in_ok-numbers.ensures)
    ∙ length-range_with_len 0 (length c.args.first.now))

pub add_placed-requires-clause-few : goal.add_placed-requires-clause-few
add_placed-requires-clause-few c = omega (
  arith,
  ap length c.new-before.ensures.items,
  ap length (c.as_slice.ensures.value ∙ c.in_ok-numbers.ensures),
  length-range_with_len 0 (length c.args.first.now),
  c.requires,
)

pub add_placed-requires-2-clause-same : goal.add_placed-requires-2-clause-same
add_placed-requires-2-clause-same c = omega (
  arith,
  ap length c.in_ok-members.ensures,
  length-put_members c.args.path.now [],
  ap length (c.as_slice-2.ensures.value ∙ c.in_ok-cells.ensures),
)

pub add_placed-requires-2-clause-few : goal.add_placed-requires-2-clause-few
add_placed-requires-2-clause-few c = omega (
  arith,
  ap length c.in_ok-add_placed.ensures.before,
  length-append c.new-before.result.items c.as_slice.result.now,
  ap length c.new-before.ensures.items,
  ap length (c.as_slice.ensures.value ∙ c.in_ok-numbers.ensures),
  length-range_with_len 0 (length c.args.first.now),
  ap length (c.as_slice-2.ensures.value ∙ c.in_ok-cells.ensures),
  cells-few (servers_of c.args.path.now),
  length-map c.args.path.now (λ e. e.server),
  c.requires,
)

pub returns : goal.returns
returns c =
    let N = naming_view c.args.naming in
    let path = c.args.path.now in
    let first = c.args.first.now in
    let nums = range_with_len 0 (length first) in
    let no_placed = ap (map placed_view) c.new-placed.ensures.items in
    let no_before = c.new-before.ensures.items in
    let numbered = c.as_slice.ensures.value ∙ c.in_ok-numbers.ensures in
    let before : c.add_placed.new.before.items ≡ nums =
    c.in_ok-add_placed.ensures.before ∙ ap₂ (λ xs ys. xs ++ ys) no_before numbered in
    let long : length c.add_placed.new.before.items ≡ length first =
    ap length before ∙ length-range_with_len 0 (length first) in
    c.from_vec.ensures
    ∙ c.in_ok-add_placed-2.ensures.placed
    ∙ ap₂ (λ xs ys. xs ++ ys)
    (c.in_ok-add_placed.ensures.placed
    ∙ ap₂ (λ xs ys. xs ++ ys) no_placed
    (ap (λ bs. placed_from N (length bs) (reverse bs) c.as_slice.result.now c.in_ok-heads.heads.items) no_before
    ∙ ap₂ (λ cs gs. placed_from N 0 [] cs gs) numbered c.in_ok-heads.ensures))
    (ap₂ (λ i bs. placed_from N i (reverse bs) c.as_slice-2.result.now c.in_ok-members.members.items) long before
    ∙ ap₂ (λ cs gs. placed_from N (length first) (reverse nums) cs gs)
    (c.as_slice-2.ensures.value ∙ c.in_ok-cells.ensures) c.in_ok-members.ensures)
