-- The part is put where it was.
use Rattle.std.proofs.Common.{◌≡◌, ◌≤◌, ◌+◌, ◌-◌, ◌++◌, ℕ, List, length, take, drop, ap, sym, ◌∙◌, subst, arith, length-drop}
use Rattle.std.specs.List.Sorted.{IsPermutation}
use Rattle.std.proofs.lemmas.List.{drop-take}
use Rattle.std.proofs.lemmas.List.Sorted.{IsPermutation-put_mid, IsNonDecreasingBy-from_sort, length_permutation}
use Rattle.std.proofs.lemmas.Slice.{take-put_mid, take-put_mid_below}
use Rattle.js_rounds.proofs.Answered.{length_take}
use Rattle.js_rounds.proofs.waking.sort_part.Goals as goal

part_is : (xs : List ℕ) (from to : ℕ) → from ≤ to → drop from (take to xs) ≡ take (to - from) (drop from xs)
part_is xs from to l = ap (λ n. drop from (take n xs)) whole ∙ drop-take from (to - from) xs where
  whole : to ≡ from + (to - from)
  whole = omega (arith, l)

pub returns : goal.returns
returns c =
    let xs = c.args.order.now in
    let from = c.args.from in
    let to = c.args.to in
    let part = c.sort_unstable.new.self in
    let l = c.requires.from in
    let m = c.requires.to in
    let is = part_is xs from to l in
    let count : length part ≡ to - from =
    length_permutation (take (to - from) (drop from xs)) part c.sort_unstable.ensures.permutation
    ∙ length_take (to - from) (drop from xs) (omega (arith, length-drop from xs, l, m)) in
    record {
      same = length_permutation xs _ (IsPermutation-put_mid from (to - from) xs part
          c.sort_unstable.ensures.permutation);
      before = take-put_mid_below from (to - from) xs part from (omega arith) (omega (arith, l, m));
      part = part;
      whole = take-put_mid from (to - from) xs part to (omega (arith, count, l)) (omega (arith, l, m));
      moved = subst (λ ys. IsPermutation ys part) (sym is) c.sort_unstable.ensures.permutation;
      rises = IsNonDecreasingBy-from_sort (λ x. x) part c.sort_unstable.ensures.sorted;
    }
