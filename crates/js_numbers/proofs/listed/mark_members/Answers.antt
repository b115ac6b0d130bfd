use Rattle.std.proofs.Common.{pos, get_or, length, ◌<◌, ◌≤◌, ◌||◌, false, ap, subst, ◌∙◌, to_z-of_z, rules, FitsSigned, take_all}
use Rattle.std.specs.Int.{w128}
use Rattle.std.specs.Ordering.{int_eq}
use Rattle.js_numbers.specs.declared.candidates.TheConstants.{MOST_STRUCK}
use Rattle.js_doc.specs.Numbers.{has}
use Rattle.js_numbers.proofs.ListedLaws.{AddsListed-more}
use Rattle.js_numbers.proofs.listed.mark_members.Goals as goal

pub loop-x-preserved : goal.loop-x-preserved
loop-x-preserved c =
    let set = c.args.set.now in
    let i = c.loop-x.x-index in
    let same = c.as_slice-x-items.ensures in
    let fits : FitsSigned w128 (get_or c.as_slice-x-items.result.now i (pos 0)) = search rules in
    AddsListed-more MOST_STRUCK c.args.start c.args.values.now
    (λ x y. int_eq x y) set i _ (pos 0) c.args.listed.now c.loop-x.listed
    c.mark_value.new.listed
    (subst (λ xs. i < length xs) same c.loop-x-test.true)
    (to_z-of_z fits ∙ ap (λ xs. get_or xs i (pos 0)) same) c.loop-x.invariant c.mark_value.ensures

pub returns : goal.returns
returns c =
    let set = c.args.set.now in
    let over = subst (λ xs. length xs ≤ c.loop-x.x-index) c.as_slice-x-items.ensures c.loop-x-test.false in
    λ y k e. c.loop-x.invariant y k e
    ∙ ap (λ xs. get_or c.args.listed.now k false || has xs y) (take_all c.loop-x.x-index set over)
