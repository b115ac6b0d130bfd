use Rattle.std.proofs.Common.{pos, get_or, length, ◌<◌, ◌≤◌, ◌&&◌, ap, subst, ◌∙◌, to_z-of_z, rules, FitsSigned, take_all}
use Rattle.std.specs.Int.{w128}
use Rattle.std.specs.List.{list_any}
use Rattle.std.specs.Ordering.{int_eq}
use Rattle.js_numbers.specs.declared.candidates.TheConstants.{MOST_STRUCK}
use Rattle.js_doc.specs.Numbers.{has}
use Rattle.js_numbers.specs.Marking.{AddsListed}
use Rattle.js_numbers.proofs.ListedLaws.{AddsListed-more, AddsListed-shared}
use Rattle.js_numbers.proofs.listed.mark_all_shared.Goals as goal

pub loop-x-preserved : goal.loop-x-preserved
loop-x-preserved c =
    let i = c.loop-x.x-index in
    let set = c.args.set.now in
    let same = c.as_slice-x-items.ensures in
    let fits : FitsSigned w128 (get_or c.as_slice-x-items.result.now i (pos 0)) = search rules in
    AddsListed-more MOST_STRUCK c.args.start c.args.values.now
    (λ x y. int_eq x y && has set x) c.args.values.now i _ (pos 0)
    c.args.listed.now c.loop-x.listed c.mark_shared.new.listed
    (subst (λ xs. i < length xs) same c.loop-x-test.true)
    (to_z-of_z fits ∙ ap (λ xs. get_or xs i (pos 0)) same) c.loop-x.invariant c.mark_shared.ensures

pub returns : goal.returns
returns c =
    let values = c.args.values.now in
    let set = c.args.set.now in
    let over = subst (λ xs. length xs ≤ c.loop-x.x-index) c.as_slice-x-items.ensures c.loop-x-test.false in
    AddsListed-shared MOST_STRUCK c.args.start values set c.args.listed.now c.loop-x.listed
    (subst (λ xs. AddsListed MOST_STRUCK c.args.start values (λ y. list_any (λ x. int_eq x y && has set x) xs)
    c.args.listed.now c.loop-x.listed)
    (take_all c.loop-x.x-index values over) c.loop-x.invariant)
