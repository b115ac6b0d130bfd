use Rattle.std.proofs.Common.{◌≡◌, ◌∙◌, ◌≤ℤ◌, ◌-ℤ◌, ap, sym, arith, unsigned_abs, neg_ℤ, to_z, of_z, to_z-of_z, FitsSigned, rules}
use Rattle.std.specs.Int.{w128}
use Rattle.std.proofs.lemmas.Int.{ints}
use Rattle.number_groups.specs.Outcome.{multiple_from}
use Rattle.js_numbers.proofs.Sizes.{sized-Some}
use Rattle.js_numbers.proofs.MarkLaws.{index_down_found}
use Rattle.js_numbers.proofs.marks.index_down.Goals as goal

pub returns-else-last-x-clause-value : goal.returns-else-last-x-clause-value
returns-else-last-x-clause-value c = λ k l small.
    let x = c.args.x in
    let low = neg_ℤ c.args.high in
    let last = c.in_ok-last.last in
    let fits : FitsSigned w128 last = search rules in
    let is =
    (sized-Some (neg_ℤ (multiple_from c.args.m low 0)) last
    (sym (rw (to_z-of_z c.ranges.high) at c.in_ok-last.ensures))).0 in
    let below : x ≤ℤ last = omega (arith, ints) in
    let same : to_z w128 (of_z w128 last) -ℤ to_z w128 (of_z w128 x) ≡ last -ℤ x = omega (arith, ints) in
    let gap : c.abs_diff.result ≡ unsigned_abs (last -ℤ x) = c.abs_diff.ensures ∙ ap unsigned_abs same in
    c.steps.ensures.value k l ∙ index_down_found c.args.m low x last k c.abs_diff.result is below gap
