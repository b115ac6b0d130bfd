-- What an answer says of the group.
use Rattle.std.proofs.Common.{◌≡◌, ℕ, ◌*◌, ◌%◌, ◌^◌, ◌<◌, ◌≤◌, ◌==◌, ◌⊎◌, inl, inr, List, [], ◌∷◌, Bool, true, false, not, nat_lt, nat_le, Option, Some, None, Ok, Err, ℤ, pos, ◌≤ℤ◌, ◌<ℤ◌, unsigned_abs, refl, ap, sym, ◌∙◌, subst, arith, if◌then◌else◌}
use Rattle.std.specs.List.{find, list_all, list_any}
use Rattle.std.specs.Ordering.{int_eq}
use Rattle.std.proofs.lemmas.Int.{ints}
use Rattle.std.proofs.lemmas.Bool.{cases_lt, eq-eqb, ne_eqb, eqb-true, leb-true, and_parts, and_from, or_cases, not-false, not-true, true≢false, false_from_ne_true, or_left, or_right}
use Rattle.std.proofs.lemmas.Bool.Decides.{Decides-int_eq}
use Rattle.std.proofs.lemmas.Nat.Gcd.{dvd_trans, dvd_refl, dvd_of_mod-eq-zero}
use Rattle.std.proofs.Math.Nat.{mul-le-mul_right}
use Prim.Native.Nat.{◌∣◌}
use Rattle.number_groups.specs.Cases.{Cases}
use Rattle.number_groups.specs.Cases.{Found, Empty, LimitMultiples, LimitCandidates}
use Rattle.number_groups.specs.Multiples.{is_multiple, is_common, lcm_of, IsLcmOf}
use Rattle.js_doc.specs.Numbers.{has}
use Rattle.number_groups.specs.Group.{Group, is_above, is_below, is_crossed, is_met, is_ready, is_struck}
use Rattle.number_groups.specs.Outcome.{multiple_from, place, candidate, is_over, in_reach, reached, is_last, answer_at, answer_among, answer_of_multiples, answer_in, found, outcome}
use Rattle.number_groups.specs.Correct.{IsTooLarge, IsTried, IsStruckAt, Says, StrikesAll, IsRight}
use Rattle.js_numbers.proofs.Least.{least_below-cases}
use Rattle.js_numbers.proofs.CommonMultiples.{IsLcmOf-lcm_of, common_along}
use Rattle.js_numbers.proofs.Finding.{find-front}
use Rattle.js_numbers.proofs.Sizes.{le_from, le_true, lt_from}
use Rattle.js_numbers.proofs.Searching.{StruckBefore}
use Rattle.js_numbers.proofs.Deciding.{step}
use Rattle.js_numbers.proofs.PlaceLaws.{divides, is_multiple_from, divides_place, place_above, place_below, some_place, are_candidates}

-- ---- what it is to meet a group

record Meets (g : Group) (x : ℤ) : Type 0 where
  above : is_above g.low x ≡ true
  below : is_below g.high x ≡ true
  common : is_common g.multiples (unsigned_abs x) ≡ true
  listed : list_all (λ s. has s x) g.sets ≡ true
  spared : is_struck g x ≡ false

meets_from : (g : Group) (x : ℤ) → is_met g x ≡ true → Meets g x
meets_from g x h =
    let (abcd, e) = and_parts _ _ h in
    let (abc, d) = and_parts _ _ abcd in
    let (ab, c) = and_parts _ _ abc in
    let (a, b) = and_parts _ _ ab in
    record { above = a; below = b; common = c; listed = d; spared = not-true (is_struck g x) e }

is_met_from : (g : Group) (x : ℤ) → Meets g x → is_met g x ≡ true
is_met_from g x h =
    and_from _ _ (and_from _ _ (and_from _ _ (and_from _ _ h.above h.below) h.common) h.listed)
    (ap not h.spared)

none_between_crossed : (low high : Option ℤ) (x : ℤ) → is_crossed low high ≡ true → is_above low x ≡ true
    → is_below high x ≡ true → ⊥
none_between_crossed (Some l) (Some h) x c a b =
    let p : h <ℤ l = lt_from h l c in let q : l ≤ℤ x = le_from l x a in let r : x ≤ℤ h =
    le_from x h b in omega (arith, ints)
none_between_crossed (Some l) None x c a b = absurd (true≢false (sym c))
none_between_crossed None high x c a b = absurd (true≢false (sym c))

-- ---- the values of a set

find_Some : (p : ℤ → Bool) (s : List ℤ) (x : ℤ) → find p s ≡ Some x → p x ≡ true
find_Some p [] x e = cc
find_Some p (y ∷ ys) x e = go (p y) refl (find_Some p ys x)
  where
    go : (b : Bool) → p y ≡ b → (find p ys ≡ Some x → p x ≡ true) → p x ≡ true
    go true h rest = let same : Some y ≡ Some x = sym (find-front p y ys true h) ∙ e in let eq : y ≡ x =
        cc in subst (λ z. p z ≡ true) eq h
    go false h rest = rest (sym (find-front p y ys false h) ∙ e)

find_None : (p : ℤ → Bool) (s : List ℤ) (x : ℤ) → find p s ≡ None → has s x ≡ true → p x ≡ false
find_None p [] x e h = absurd (true≢false (sym h))
find_None p (y ∷ ys) x e h = go (p y) refl (find_None p ys x)
  where
    go : (b : Bool) → p y ≡ b → (find p ys ≡ None → has ys x ≡ true → p x ≡ false) → p x ≡ false
    go true k rest = let wrong : Some y ≡ None = sym (find-front p y ys true k) ∙ e in cc
    go false k rest = elim (or_cases (int_eq y x) (has ys x) h) [
      | inl same ↦ let eq : y ≡ x = (Decides-int_eq y x).0 same in subst (λ z. p z ≡ false) eq k
      | inr later ↦ rest (sym (find-front p y ys false k) ∙ e) later
    ]

says_found : (limit m : ℕ) (g : Group) (s : List ℤ) (ss : List (List ℤ)) → g.sets ≡ s ∷ ss
    → (r : Option ℤ) → find (is_met g) s ≡ r → Says limit m g (found r)
says_found limit m g s ss e (Some x) h = record {
  meets = find_Some (is_met g) s x h;
  first = λ none. let wrong : s ∷ ss ≡ [] = sym e ∙ none in cc;
  listed = λ t ts f.
      let same : s ∷ ss ≡ t ∷ ts = sym e ∙ f in
      let front : s ≡ t = cc in sym (ap (find (is_met g)) front) ∙ h;
}
says_found limit m g s ss e None h = λ x. false_from_ne_true (is_met g x) (λ met.
    let all : list_all (λ t. has t x) (s ∷ ss) ≡ true =
    subst (λ ts. list_all (λ t. has t x) ts ≡ true) e (meets_from g x met).listed in
    let (here, rest) = and_parts _ _ all in
    true≢false (sym met ∙ find_None (is_met g) s x h here))

-- ---- a divisor that is ruled out and divides them all

pub some_divides : (bs : List ℕ) (m : ℕ) (x : ℤ) → m ∣ unsigned_abs x → list_any (λ b. m % b == 0) bs ≡ true
    → list_any (λ b. is_multiple b x) bs ≡ true
some_divides [] m x d h = h
some_divides (b ∷ bs) m x d h = elim (or_cases (m % b == 0) (list_any (λ c. m % c == 0) bs) h) [
  | inl here ↦ or_left _ _ (is_multiple_from b x (dvd_trans b (dvd_of_mod-eq-zero b (eqb-true _ _ here)) d))
  | inr later ↦ or_right _ _ (some_divides bs m x d later)
]

strikes_all : (m : ℕ) (bs : List ℕ) → StrikesAll m bs
strikes_all m bs =
    (λ h x d. some_divides bs m x (divides m x d) h, λ h. h (pos m) (is_multiple_from m (pos m) (dvd_refl m)))

divisor_empty : (g : Group) (m : ℕ) → IsLcmOf g.multiples m
    → list_any (λ b. m % b == 0) g.not_multiples ≡ true
    → (x : ℤ) → is_met g x ≡ false
divisor_empty g m l h x = false_from_ne_true (is_met g x) (λ met.
    let w = meets_from g x met in
    let d : m ∣ unsigned_abs x = l.least (unsigned_abs x) w.common in
    true≢false (sym (or_left _ _ (some_divides g.not_multiples m x d h)) ∙ w.spared))

-- ---- candidates

by_reach : (b : Bool) (x : ℤ) (o : Bool) → is_over x ≡ o
    → in_reach b x ≡ (if b then (if o then Err LimitMultiples else Ok x) else Err Empty)
by_reach true x o e = ap (λ t. if t then Err LimitMultiples else Ok x) e
by_reach false x o e = refl

reached_is : (m : ℕ) (g : Group) (k : ℕ) (b o : Bool) → is_below g.high (candidate m g k) ≡ b
    → is_over (candidate m g k) ≡ o
    → reached m g k ≡ (if b then (if o then Err LimitMultiples else Ok (candidate m g k)) else Err Empty)
unfolding reached
reached_is m g k b o e f =
    by_reach (is_below g.high (candidate m g k)) (candidate m g k) o f
    ∙ ap (λ t. if t then (if o then Err LimitMultiples else Ok (candidate m g k)) else Err Empty) e

-- the k-th candidate: none remains, or it is too large, or it is tried
abbrev Reach : ℕ → Group → ℕ → Type 0
Reach m g k =
    ((is_below g.high (candidate m g k) ≡ false) × (reached m g k ≡ Err Empty))
    ⊎ ((IsTooLarge m g k × (reached m g k ≡ Err LimitMultiples))
    ⊎ (IsTried m g k × (reached m g k ≡ Ok (candidate m g k))))

reach : (m : ℕ) (g : Group) (k : ℕ) → Reach m g k
reach m g k = go (is_below g.high (candidate m g k)) (is_over (candidate m g k)) refl refl
  where
    go : (b o : Bool) → is_below g.high (candidate m g k) ≡ b → is_over (candidate m g k) ≡ o → Reach m g k
    go false o e f = inl (e, reached_is m g k false o e f)
    go true true e f = inr (inl (record { remains = e; over = f }, reached_is m g k true true e f))
    go true false e f = inr (inr (record { remains = e; small = f }, reached_is m g k true false e f))

struck_at : (m : ℕ) (g : Group) (j : ℕ) → is_last g (reached m g j) ≡ false → IsStruckAt m g j
struck_at m g j h = elim (reach m g j) [
  | inl w ↦ absurd (true≢false (sym (ap (is_last g) w.1) ∙ h))
  | inr v ↦ elim v [
    | inl w ↦ absurd (true≢false (sym (ap (is_last g) w.1) ∙ h))
    | inr w ↦
        record {
          tried = w.0;
          struck = not-false (is_struck g (candidate m g j))
              (sym (ap (is_last g) w.1) ∙ h);
        }
  ]
]

-- before a candidate that isn't above the upper bound, none is
pub below_before : (m : ℕ) (low high : Option ℤ) (k j : ℕ) → k ≤ j → is_below high (place m low high j) ≡ true
    → is_below high (place m low high k) ≡ true
below_before m (Some l) None k j le h = refl
below_before m (Some l) (Some u) k j le h =
    let a : multiple_from m l j ≤ℤ u = le_from (multiple_from m l j) u h in
    let b : k * m ≤ j * m = mul-le-mul_right m le in
    le_true (multiple_from m l k) u (omega (arith, ints))
below_before m None high k j le h = place_below m high k

none_left : (m : ℕ) (g : Group) (k : ℕ) → IsLcmOf g.multiples m → StruckBefore m g k
    → is_below g.high (candidate m g k) ≡ false
    → (x : ℤ) → is_met g x ≡ false
none_left m g k l before ends x = false_from_ne_true (is_met g x) (λ met.
    let w = meets_from g x met in
    let (j, e) = some_place m g.low g.high x l.positive (l.least (unsigned_abs x) w.common) w.above w.below in
    elim (cases_lt j k) [
      | inl h ↦ true≢false (sym (subst (λ z. is_struck g z ≡ true) e (struck_at m g j (before j h)).struck)
          ∙ w.spared)
      | inr h ↦
          true≢false
          (sym (below_before m g.low g.high k j h (subst (λ z. is_below g.high z ≡ true) (sym e) w.below))
          ∙ ends)
    ])

meets : (m : ℕ) (g : Group) (k : ℕ) → IsLcmOf g.multiples m → g.sets ≡ [] → IsTried m g k
    → is_struck g (candidate m g k) ≡ false
    → is_met g (candidate m g k) ≡ true
meets m g k l none tried spared =
    let x = candidate m g k in
    is_met_from g x (record {
      above = place_above m g.low g.high k;
      below = tried.remains;
      common = common_along g.multiples m (unsigned_abs x)
          (divides_place m g.low g.high k l.positive) l.common;
      listed = ap (λ ss. list_all (λ s. has s x) ss) none;
      spared = spared;
    })

-- at the candidate that the answer is about
says_at : (limit m : ℕ) (g : Group) (k : ℕ) → IsLcmOf g.multiples m → g.sets ≡ [] → k < limit
    → StruckBefore m g k
    → is_last g (reached m g k) ≡ true → Says limit m g (answer_at limit k (reached m g k))
says_at limit m g k l none within before last = elim (reach m g k) [
  | inl w ↦ subst (λ r. Says limit m g (answer_at limit k r)) (sym w.1) (none_left m g k l before w.0)
  | inr v ↦ elim v [
    | inl w ↦ subst (λ r. Says limit m g (answer_at limit k r)) (sym w.1)
        (inr (k, omega arith, λ j h. struck_at m g j (before j h), w.0))
    | inr w ↦
        let x = candidate m g k in
        let spared = not-true (is_struck g x) (sym (ap (is_last g) w.1) ∙ last) in
        let other : (k == limit) ≡ false = ne_eqb k limit (λ e. omega arith) in
        let says : Says limit m g (Found x) = record {
          meets = meets m g k l none w.0 spared;
          first = λ e. record {
            count = k;
            within = within;
            is = refl;
            tried = w.0;
            before = λ j h. struck_at m g j (before j h);
          };
          listed = λ s ss f. let wrong : [] ≡ s ∷ ss = sym none ∙ f in cc;
        } in
        subst (λ a. Says limit m g a)
        (sym (ap (answer_at limit k) w.1 ∙ ap (λ t. if t then LimitCandidates else Found x) other)) says
  ]
]

says_at_limit : (limit m : ℕ) (g : Group) → IsLcmOf g.multiples m → g.sets ≡ [] → StruckBefore m g limit
    → Says limit m g (answer_at limit limit (reached m g limit))
says_at_limit limit m g l none before = elim (reach m g limit) [
  | inl w ↦ subst (λ r. Says limit m g (answer_at limit limit r)) (sym w.1) (none_left m g limit l before w.0)
  | inr v ↦ elim v [
    | inl w ↦ subst (λ r. Says limit m g (answer_at limit limit r)) (sym w.1)
        (inr (limit, omega arith, λ j h. struck_at m g j (before j h), w.0))
    | inr w ↦
        let x = candidate m g limit in
        let says : Says limit m g LimitCandidates = (λ j h. struck_at m g j (before j h), w.0) in
        subst (λ a. Says limit m g a)
        (sym (ap (answer_at limit limit) w.1 ∙ ap (λ t. if t then LimitCandidates else Found x)
        (eq-eqb limit limit refl))) says
  ]
]

says_among : (limit m : ℕ) (g : Group) → IsLcmOf g.multiples m → g.sets ≡ []
    → Says limit m g (answer_among limit m g)
says_among limit m g l none = elim (least_below-cases (λ k. is_last g (reached m g k)) limit) [
  | inl w ↦ subst (λ n. Says limit m g (answer_at limit n (reached m g n))) (sym w.4)
      (says_at limit m g w.0 l none w.1 w.3 w.2)
  | inr w ↦ subst (λ n. Says limit m g (answer_at limit n (reached m g n))) (sym w.1)
      (says_at_limit limit m g l none w.0)
]

-- ---- the answer by multiples

says_multiples : (limit m : ℕ) (g : Group) → IsLcmOf g.multiples m → g.sets ≡ []
    → Says limit m g (answer_of_multiples limit m g)
says_multiples limit m g l none = go (nat_le (2 ^ 127) m)
    (list_any (λ b. m % b == 0) g.not_multiples) refl refl
  where
    go : (b o : Bool) → nat_le (2 ^ 127) m ≡ b → list_any (λ c. m % c == 0) g.not_multiples ≡ o
        → Says limit m g (if b then LimitMultiples else (if o then Empty else answer_among limit m g))
    go true o e f = inl (leb-true (2 ^ 127) m e)
    go false true e f = divisor_empty g m l f
    go false false e f = says_among limit m g l none

says_in : (limit m : ℕ) (g : Group) (ss : List (List ℤ)) → lcm_of g.multiples ≡ m → IsLcmOf g.multiples m
    → g.sets ≡ ss
    → Says limit m g (answer_in limit g ss)
says_in limit m g [] e l h = subst (λ n. Says limit m g (answer_of_multiples limit n g)) (sym e)
    (says_multiples limit m g l h)
says_in limit m g (s ∷ ss) e l h = says_found limit m g s ss h (find (is_met g) s) refl

says : (limit : ℕ) (g : Group) (b : Bool) → is_crossed g.low g.high ≡ b
    → IsLcmOf g.multiples (lcm_of g.multiples)
    → Says limit (lcm_of g.multiples) g (if b then Empty else answer_in limit g g.sets)
says limit g true e l = λ x. false_from_ne_true (is_met g x) (λ met.
    let w = meets_from g x met in none_between_crossed g.low g.high x e w.above w.below)
says limit g false e l = says_in limit (lcm_of g.multiples) g g.sets refl l refl

positive_multiples : (g : Group) → is_ready g ≡ true → list_all (λ m. nat_lt 0 m) g.multiples ≡ true
positive_multiples g h = let (abc, d) = and_parts _ _ h in let (ab, c) = and_parts _ _ abc in c

pub is_right : (limit : ℕ) (g : Group) (answer : Cases) → is_ready g ≡ true → answer ≡ outcome limit g
    → IsRight limit g answer
is_right limit g answer r e =
    let l = IsLcmOf-lcm_of g.multiples (positive_multiples g r) in
    record {
      common = l;
      says = subst (λ a. Says limit (lcm_of g.multiples) g a)
          (sym (e ∙ step limit g (is_crossed g.low g.high) refl))
          (says limit g (is_crossed g.low g.high) refl l);
      candidates = are_candidates (lcm_of g.multiples) g l.positive;
      divisors = strikes_all (lcm_of g.multiples) g.not_multiples;
    }

pub reached_Ok : (m : ℕ) (g : Group) (k : ℕ) (x : ℤ) → reached m g k ≡ Ok x → IsTried m g k
    × (candidate m g k ≡ x)
reached_Ok m g k x e = elim (reach m g k) [
  | inl w ↦ let wrong : Ok x ≡ Err Empty = sym e ∙ w.1 in cc
  | inr v ↦ elim v [
    | inl w ↦ let wrong : Ok x ≡ Err LimitMultiples = sym e ∙ w.1 in cc
    | inr w ↦ let same : Ok (candidate m g k) ≡ Ok x = sym w.1 ∙ e in (w.0, cc)
  ]
]
