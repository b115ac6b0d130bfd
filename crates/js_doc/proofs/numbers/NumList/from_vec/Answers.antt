use Rattle.std.proofs.Common.{◌≡◌, ◌∙◌, cond, ap, sym}
use Rattle.std.specs.List.{list_any, count_by}
use Rattle.std.proofs.lemmas.List.Sorted.{sum_by-IsPermutation, list_any-IsPermutation}
use Rattle.js_doc.proofs.Ranks.{AllZip-same}
use Rattle.js_doc.proofs.numbers.NumList.from_vec.Goals as goal

pub invariant_of-result : goal.invariant_of-result
invariant_of-result c =
    let copy : c.in_ok-sorted.sorted.items ≡ c.args.items.items = AllZip-same _ _ c.in_ok-sorted.ensures.cases.0 in
    let moved = c.sort_unstable.ensures.permutation in
    record {
      ascending = c.sort_unstable.ensures.sorted;
      same_count = λ test. sum_by-IsPermutation (λ y. cond (test y) 1 0) _ _ moved ∙ ap (count_by test) copy;
      same_any = λ test. sym (list_any-IsPermutation test _ _ moved) ∙ ap (list_any test) copy;
    }
