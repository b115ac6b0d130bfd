use Rattle.std.proofs.Common.{◌≡◌, ◌∙◌, ◌≤ℤ◌, ◌-ℤ◌, ap, sym, arith, unsigned_abs, to_z, of_z, to_z-of_z, FitsSigned, rules}
use Rattle.std.specs.Int.{w128}
use Rattle.std.proofs.lemmas.Int.{ints}
use Rattle.number_groups.specs.Outcome.{multiple_from}
use Rattle.js_numbers.proofs.Sizes.{sized-Some}
use Rattle.js_numbers.proofs.MarkLaws.{index_up_found}
use Rattle.js_numbers.proofs.marks.index_up.Goals as goal

pub returns-else-x-first-clause-value : goal.returns-else-x-first-clause-value
returns-else-x-first-clause-value c = λ k l small.
    let x = c.args.x in
    let first = c.in_ok-first.first in
    let fits : FitsSigned w128 first = search rules in
    let is =
    (sized-Some (multiple_from c.args.m c.args.low 0) first
    (sym (rw (to_z-of_z c.ranges.low) at c.in_ok-first.ensures))).0 in
    let above : first ≤ℤ x = omega (arith, ints) in
    let same : to_z w128 (of_z w128 x) -ℤ to_z w128 (of_z w128 first) ≡ x -ℤ first = omega (arith, ints) in
    let gap : c.abs_diff.result ≡ unsigned_abs (x -ℤ first) = c.abs_diff.ensures ∙ ap unsigned_abs same in
    c.steps.ensures.value k l ∙ index_up_found c.args.m c.args.low x first k c.abs_diff.result is above gap
