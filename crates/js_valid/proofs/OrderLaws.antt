-- A sorted list of the entries is an order by ranks.
use Rattle.std.proofs.Common.{◌≡◌, ℕ, zero, suc, ◌<◌, ◌≤◌, List, [], ◌∷◌, map, length, get_or, true, refl, sym, ap, ◌∙◌, arith}
use Rattle.std.specs.List.{Contains}
use Rattle.std.specs.List.Sorted.{IsPermutation, IsSortedByKey}
use Rattle.std.specs.Ordering.{nat_cmp}
use Rattle.std.proofs.Math.ListN.{get_or-map, length-map}
use Rattle.std.proofs.lemmas.List.Sorted.{IsPermutation-sym, Contains-permutation, IsNonDecreasingBy-from_sort}
use Rattle.schemas.specs.Entry.{Entry}
use Rattle.schemas.specs.Schema.{is_table}
use Rattle.schemas.specs.Guarded.{edges, are_ranks}
use Rattle.draft06_laws.proofs.RankLaws.{fall_in_place}
use Rattle.js_valid.specs.Plan.{IsPlan}

module _ (ranks : List ℕ) (xs ys : List (ℕ × ℕ)) (len : length xs ≡ length ranks)
    (each : (k : ℕ) (d : ℕ × ℕ) → k < length ranks → get_or xs k d ≡ (get_or ranks k 0, k))
    (moved : IsPermutation xs ys) where
  abbrev pub second : ℕ × ℕ → ℕ
  second p = p.1

  pub sorted-all : (e : ℕ) → e < length ranks → Contains (map second ys) e
  sorted-all e h =
      let x : ℕ × ℕ = (get_or ranks e 0, e) in
      let (k, less, same) = Contains-permutation xs ys x moved (e, omega (arith, h, len), each e x h) in
      let longer = length-map ys second in
      (k, omega (arith, less, longer), get_or-map second ys k x ∙ ap second same)

  -- each pair is a rank with its entry
  pair-at : (k : ℕ) → k < length ys
      → (i : ℕ) × (i < length ranks) × (get_or ys k (0, 0) ≡ (get_or ranks i 0, i))
  pair-at k h =
      let y = get_or ys k (0, 0) in
      let (i, il, same) = Contains-permutation ys xs y (IsPermutation-sym xs ys moved) (
        k,
        h,
        get_or_same ys k y
            (0, 0) h,
      ) in
      let place : i < length ranks = omega (arith, il, len) in
      (i, place, sym same ∙ each i y place)
    where
      get_or_same : (ys : List (ℕ × ℕ)) (k : ℕ) (d e : ℕ × ℕ) → k < length ys → get_or ys k d ≡ get_or ys k e
      get_or_same [] k d e h = absurd (omega (arith, h))
      get_or_same (x ∷ xs) zero d e h = refl
      get_or_same (x ∷ xs) (suc k) d e h = get_or_same xs k d e (omega (arith, h))

  entry-at : (k : ℕ) → get_or (map second ys) k 0 ≡ second (get_or ys k (0, 0))
  entry-at k = get_or-map second ys k (0, 0)

  shorter : (k : ℕ) → k < length (map second ys) → k < length ys
  shorter k h = let e = length-map ys second in omega (arith, h, e)

  pub sorted-only : (k : ℕ) → k < length (map second ys) → get_or (map second ys) k 0 < length ranks
  sorted-only k h =
      let (i, place, same) = pair-at k (shorter k h) in
      let is = entry-at k ∙ ap second same in omega (arith, is, place)

  rank-at : (k : ℕ) → k < length ys → get_or ranks (get_or (map second ys) k 0) 0 ≡ (get_or ys k (0, 0)).0
  rank-at k h =
      let (i, place, same) = pair-at k h in
      ap (λ e. get_or ranks e 0) (entry-at k ∙ ap second same) ∙ sym (ap (λ (p : ℕ × ℕ). p.0) same)

  pub sorted-rises : IsSortedByKey (λ (p : ℕ × ℕ). p.0) nat_cmp ys → (k l : ℕ) → k ≤ l → l < length (map second ys)
      → get_or ranks (get_or (map second ys) k 0) 0 ≤ get_or ranks (get_or (map second ys) l 0) 0
  sorted-rises up k l le less =
      let ll = shorter l less in
      let rises = IsNonDecreasingBy-from_sort (λ (p : ℕ × ℕ). p.0) ys up k l (0, 0) le ll in
      let first = rank-at k (omega (arith, le, ll)) in
      let last = rank-at l ll in
      omega (arith, rises, first, last)

pub plan-of : (es : List Entry) (ranks order : List ℕ) → is_table es ≡ true → are_ranks (edges es) ranks ≡ true
    → length ranks ≡ length es
    → ((e : ℕ) → e < length ranks → Contains order e)
    → ((k : ℕ) → k < length order → get_or order k 0 < length ranks)
    → ((k l : ℕ) → k ≤ l → l < length order → get_or ranks (get_or order k 0) 0 ≤ get_or ranks (get_or order l 0) 0)
    → IsPlan es order
plan-of es ranks order table h len all only rises = record {
  table = table;
  rank = λ e. get_or ranks e 0;
  falls = fall_in_place es ranks h;
  rises = rises;
  all = λ e l.
      let (k, less, same) = all e (omega (arith, l, len)) in
      (k, less, get_or_zero order k e less ∙ same);
  only = λ k l. let b = only k l in omega (arith, b, len);
}
  where
    get_or_zero : (xs : List ℕ) (k d : ℕ) → k < length xs → get_or xs k 0 ≡ get_or xs k d
    get_or_zero [] k d h = absurd (omega (arith, h))
    get_or_zero (x ∷ xs) zero d h = refl
    get_or_zero (x ∷ xs) (suc k) d h = get_or_zero xs k d (omega (arith, h))
