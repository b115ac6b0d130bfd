-- How many goals have an answer.
use Rattle.std.proofs.Common.{◌≡◌, ◌≢◌, ℕ, zero, suc, ◌+◌, ◌≤◌, ◌<◌, ◌⊎◌, inl, inr, List, [], ◌∷◌, ◌++◌, replicate, length, take, drop, set, Bool, true, false, cond, nat_eq, Option, Some, None, is_some, get_or, get_or-set_same, get_or-set_other, eqb-true, eq-eqb, refl, ap, sym, ◌∙◌, subst, arith}
use Rattle.std.proofs.lemmas.Bool.Decides.{eqb_tells}
use Rattle.std.proofs.lemmas.List.Sorted.{sum_by-IsPermutation}
use Rattle.std.proofs.lemmas.List.Sums.{sum_by-cons}
use Rattle.std.specs.List.{sum_by}
use Rattle.std.specs.List.Sorted.{IsPermutation}
use Rattle.list_laws.specs.In.{IsIn, Distinct}
use Rattle.std.proofs.lemmas.List.{take-append-drop}
use Rattle.js_rounds.specs.Sorted.{IsSorted}
use Rattle.js_rounds.specs.State.{answered, times}

pub none_answered : (n : ℕ) → answered (replicate n None) ≡ 0
none_answered zero = refl
none_answered (suc n) = let e = none_answered n in omega (arith, e)

pub none_known : (n g : ℕ) → get_or {A = Option (ℕ × ℕ)} (replicate n None) g None ≡ None
none_known zero g = refl
none_known (suc n) zero = refl
none_known (suc n) (suc g) = none_known n g

-- no more goals have an answer than there are
pub answered_most : (os : List (Option (ℕ × ℕ))) → answered os ≤ length os
answered_most [] = omega arith
answered_most (None ∷ os) = let l = answered_most os in omega (arith, l)
answered_most (Some a ∷ os) = let l = answered_most os in omega (arith, l)

-- a goal without an answer leaves room
pub answered_room : (os : List (Option (ℕ × ℕ))) (g : ℕ) → g < length os → get_or os g None ≡ None
    → answered os < length os
answered_room [] g l e = absurd (omega (arith, l))
answered_room (None ∷ os) zero l e = let m = answered_most os in omega (arith, m)
answered_room (Some a ∷ os) zero l e = cc
answered_room (None ∷ os) (suc g) l e =
    let m = answered_room os g (omega (arith, l)) e in omega (arith, m)
answered_room (Some a ∷ os) (suc g) l e =
    let m = answered_room os g (omega (arith, l)) e in omega (arith, m)

pub answered_one : (os : List (Option (ℕ × ℕ))) (g : ℕ) (a : ℕ × ℕ) → g < length os → get_or os g None ≡ None
    → answered (set os g (Some a)) ≡ answered os + 1
answered_one [] g a l e = absurd (omega (arith, l))
answered_one (None ∷ os) zero a l e = omega arith
answered_one (Some b ∷ os) zero a l e = cc
answered_one (None ∷ os) (suc g) a l e =
    let m = answered_one os g a (omega (arith, l)) e in omega (arith, m)
answered_one (Some b ∷ os) (suc g) a l e =
    let m = answered_one os g a (omega (arith, l)) e in omega (arith, m)

pub length_take : {A : Type 0} (n : ℕ) (xs : List A) → n ≤ length xs → length (take n xs) ≡ n
length_take zero xs l = refl
length_take (suc n) [] l = absurd (omega (arith, l))
length_take (suc n) (x ∷ xs) l = ap suc (length_take n xs (omega (arith, l)))

-- a goal that has an answer is one of the goals
pub known_low : (os : List (Option (ℕ × ℕ))) (g : ℕ) → is_some (get_or os g None) ≡ true → g < length os
known_low [] g e = cc
known_low (o ∷ os) zero e = omega arith
known_low (o ∷ os) (suc g) e = let l = known_low os g e in omega (arith, l)

-- a number is in two lists joined as often as in both together
pub times-append : (g : ℕ) (xs ys : List ℕ) → times g (xs ++ ys) ≡ times g xs + times g ys
times-append g [] ys = omega arith
times-append g (x ∷ xs) ys = let l = times-append g xs ys in omega (arith, l)

one_at : (x g : ℕ) → x ≡ g → cond {A = ℕ} (nat_eq x g) 1 0 ≡ 1
one_at x g e = ap (λ b. cond {A = ℕ} b 1 0) (eq-eqb x g e)

pub in_times : (g : ℕ) (xs : List ℕ) → IsIn g xs → 0 < times g xs
in_times g [] i = absurd i
in_times g (x ∷ xs) (inl e) = let l = one_at x g (sym e) in omega (arith, l)
in_times g (x ∷ xs) (inr i) = let l = in_times g xs i in omega (arith, l)

pub times_in : (g : ℕ) (xs : List ℕ) → 0 < times g xs → IsIn g xs
times_in g [] l = absurd (omega (arith, l))
times_in g (x ∷ xs) l = go (nat_eq x g) refl (times_in g xs) l where
  go : (b : Bool) → nat_eq x g ≡ b → (0 < times g xs → IsIn g xs) → 0 < cond b 1 0 + times g xs → IsIn g (x ∷ xs)
  go true e more l = inl (sym (eqb-true x g e))
  go false e more l = inr (more (omega (arith, l)))

pub distinct_times : (xs : List ℕ) → ((g : ℕ) → times g xs ≤ 1) → Distinct xs
distinct_times [] h = tt
distinct_times (x ∷ xs) h = (
  λ i.
      let l = in_times x xs i in
      let m = one_at x x refl in
      let k = h x in
      omega (arith, k, l, m),
  distinct_times xs (λ g. let k = h g in omega (arith, k)),
)

pub times-permutation : (g : ℕ) (xs ys : List ℕ) → IsPermutation xs ys → times g ys ≡ times g xs
times-permutation g xs ys h =
    sum_is ys ∙ sum_by-IsPermutation (λ x. cond (nat_eq x g) 1 0) xs ys h ∙ sym (sum_is xs)
  where
    sum_is : (zs : List ℕ) → times g zs ≡ sum_by (λ x. cond (nat_eq x g) 1 0) zs
    sum_is [] = refl
    sum_is (z ∷ zs) =
        ap (λ n. cond (nat_eq z g) 1 0 + n) (sum_is zs) ∙ sym (sum_by-cons (λ x. cond (nat_eq x g) 1 0) z zs)

-- one answer more is noted
pub noted_more : (os : List (Option (ℕ × ℕ))) (xs : List ℕ) (h : ℕ) (a : ℕ × ℕ) → h < length os → get_or os h None
    ≡ None
    → ((g : ℕ) → times g xs ≡ cond (is_some (get_or os g None)) 1 0) → (g : ℕ)
    → times g (xs ++ h ∷ []) ≡ cond (is_some (get_or (set os h (Some a)) g None)) 1 0
noted_more os xs h a l none noted g = go (eqb_tells h g) where
  go : ((nat_eq h g ≡ true) × (h ≡ g)) ⊎ ((nat_eq h g ≡ false) × (h ≢ g))
      → times g (xs ++ h ∷ []) ≡ cond (is_some (get_or (set os h (Some a)) g None)) 1 0
  go (inl (t, e)) =
      let m = times-append h xs (h ∷ []) in
      let n = noted h ∙ ap (λ o. cond (is_some o) 1 0) none in
      let k = one_at h h refl in
      let now : times h (xs ++ h ∷ []) ≡ 1 = omega (arith, m, n, k) in
      subst (λ z. times z (xs ++ h ∷ []) ≡ cond (is_some (get_or (set os h (Some a)) z None)) 1 0) e
      (now ∙ sym (ap (λ o. cond (is_some o) 1 0) (get_or-set_same os h (Some a) None l)))
  go (inr (t, e)) =
      let m = times-append g xs (h ∷ []) in
      let k : cond {A = ℕ} (nat_eq h g) 1 0 ≡ 0 = ap (λ b. cond b 1 0) t in
      let now : times g (xs ++ h ∷ []) ≡ times g xs = omega (arith, m, k) in
      now ∙ noted g
      ∙ sym (ap (λ o. cond (is_some o) 1 0) (get_or-set_other os h g (Some a) None (λ q. e (sym q))))

-- an answer in place of another
pub noted_same : (os : List (Option (ℕ × ℕ))) (h : ℕ) (a b : ℕ × ℕ) → h < length os → get_or os h None ≡ Some b →
    (g : ℕ)
    → is_some (get_or (set os h (Some a)) g None) ≡ is_some (get_or os g None)
noted_same os h a b l was g = go (eqb_tells h g) where
  go : ((nat_eq h g ≡ true) × (h ≡ g)) ⊎ ((nat_eq h g ≡ false) × (h ≢ g))
      → is_some (get_or (set os h (Some a)) g None) ≡ is_some (get_or os g None)
  go (inl (t, e)) =
      subst (λ z. is_some (get_or (set os h (Some a)) z None) ≡ is_some (get_or os z None)) e
      (ap is_some (get_or-set_same os h (Some a) None l) ∙ sym (ap is_some was))
  go (inr (t, e)) = ap is_some (get_or-set_other os h g (Some a) None (λ q. e (sym q)))

pub answered_same : (os : List (Option (ℕ × ℕ))) (h : ℕ) (a b : ℕ × ℕ) → h < length os → get_or os h None ≡ Some b
    → answered (set os h (Some a)) ≡ answered os
answered_same [] h a b l e = absurd (omega (arith, l))
answered_same (Some o ∷ os) zero a b l e = refl
answered_same (None ∷ os) zero a b l e = cc
answered_same (o ∷ os) (suc h) a b l e =
    let m = answered_same os h a b (omega (arith, l)) e in omega (arith, m)

-- what was noted is noted as often in another order
pub sorted_noted : (from to : ℕ) (xs ys : List ℕ) → from ≤ to → IsSorted from to xs ys → (g : ℕ)
    → times g (take to ys) ≡ times g (take to xs)
sorted_noted from to xs ys l h g =
    let a = times-append g (take from xs) h.part in
    let b = times-permutation g (drop from (take to xs)) h.part h.moved in
    let c = times-append g (take from (take to xs)) (drop from (take to xs)) in
    let d = ap (times g) (take-append-drop from (take to xs)) in
    let e = ap (times g) (front from to xs l) in
    ap (times g) h.whole ∙ omega (arith, a, b, c, d, e)
  where
    front : (k n : ℕ) (xs : List ℕ) → k ≤ n → take k (take n xs) ≡ take k xs
    front zero n xs l = refl
    front (suc k) zero xs l = absurd (omega (arith, l))
    front (suc k) (suc n) [] l = refl
    front (suc k) (suc n) (x ∷ xs) l = ap (λ ys. x ∷ ys) (front k n xs (omega (arith, l)))
