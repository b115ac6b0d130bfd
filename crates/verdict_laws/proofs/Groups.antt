-- A group whose answer is that there is no number is met by none, whatever its bounds and divisors are.
use Rattle.std.proofs.Common.{◌≡◌, ℕ, zero, suc, ◌*◌, ◌%◌, ◌^◌, ◌==◌, inl, inr, List, [], ◌∷◌, Bool, true, false, cond, ◌&&◌, nat_lt, nat_le, Option, Some, None, Result, Ok, Err, ℤ, ◌≤ℤ◌, ◌<ℤ◌, unsigned_abs, refl, ap, sym, ◌∙◌, subst, arith, if◌then◌else◌}
use Rattle.std.specs.List.{find, list_all, list_any}
use Rattle.std.specs.Ordering.{int_eq}
use Rattle.std.proofs.lemmas.Int.{ints}
use Rattle.std.proofs.lemmas.Bool.{cases_lt, and_parts, or_cases, or_parts, not-false, not-true, true≢false, lt-ltb}
use Rattle.std.proofs.lemmas.Bool.Decides.{Decides-int_eq}
use Rattle.std.proofs.Math.Nat.{one-dvd}
use Prim.Native.Nat.{◌∣◌}
use Rattle.documents.specs.Numbers.{has}
use Rattle.number_groups.specs.Cases.{Cases, Found, Empty, LimitMultiples, LimitCandidates}
use Rattle.number_groups.specs.Multiples.{is_multiple, is_common, least_below, product_of, lcm_of}
use Rattle.number_groups.specs.Group.{Group, is_above, is_below, is_crossed, is_met, is_struck}
use Rattle.number_groups.specs.Outcome.{candidate, is_over, in_reach, reached, is_last, answer_at, answer_among, answer_of_multiples, answer_in, found, outcome}
use Rattle.js_numbers.proofs.Least.{least_below-cases}
use Rattle.js_numbers.proofs.CommonMultiples.{IsLcmOf-lcm_of}
use Rattle.js_numbers.proofs.Sizes.{le_from, lt_from}
use Rattle.js_numbers.proofs.Searching.{StruckBefore}
use Rattle.js_numbers.proofs.Deciding.{lcm_of_positive, step}
use Rattle.js_numbers.proofs.PlaceLaws.{some_place}
use Rattle.js_numbers.proofs.AnswerLaws.{reached_Ok, some_divides, below_before}

-- what all divisors divide, their least common multiple divides; where one of them is 0 it is 1

no_product : (ms : List ℕ) → list_all (λ m. nat_lt 0 m) ms ≡ false → product_of ms ≡ 0
no_product [] e = cc
no_product (zero ∷ ms) e = omega arith
no_product (suc m ∷ ms) e =
    let above = lt-ltb 0 (suc m) (omega arith) in
    let h = no_product ms (sym (ap (λ b. b && list_all (λ m. nat_lt 0 m) ms) above) ∙ e) in
    ap (λ z. suc m * z) h ∙ omega arith

lcm_one : (ms : List ℕ) → product_of ms ≡ 0 → lcm_of ms ≡ 1
unfolding lcm_of least_below
lcm_one ms e = ap (λ n. suc (least_below (λ k. is_common ms (suc k)) n)) e

lcm_divides : (ms : List ℕ) (x : ℕ) → is_common ms x ≡ true → lcm_of ms ∣ x
lcm_divides ms x c = go (list_all (λ m. nat_lt 0 m) ms) refl where
  go : (b : Bool) → list_all (λ m. nat_lt 0 m) ms ≡ b → lcm_of ms ∣ x
  go true e = (IsLcmOf-lcm_of ms e).least x c
  go false e = subst (λ z. z ∣ x) (sym (lcm_one ms (no_product ms e))) (one-dvd x)

-- a value of a set that passes a test is found, or another one is
found_in : (p : ℤ → Bool) (s : List ℤ) (x : ℤ) → p x ≡ true → has s x ≡ true → found (find p s) ≡ Empty → ⊥
found_in p [] x e h f = cc
found_in p (y ∷ s) x e h f = go (p y) refl f (found_in p s x e) where
  rest : p y ≡ false → has s x ≡ true
  rest q = elim (or_cases (int_eq y x) (has s x) h) [
    | inl same ↦ absurd (true≢false (sym e ∙ ap p (sym ((Decides-int_eq y x).0 same)) ∙ q))
    | inr later ↦ later
  ]

  go : (b : Bool) → p y ≡ b → found (find p (y ∷ s)) ≡ Empty → (has s x ≡ true → found (find p s) ≡ Empty → ⊥) → ⊥
  go true q g more = let wrong : Found y ≡ Empty = sym (ap (λ b. found (cond b (Some y) (find p s))) q) ∙ g in cc
  go false q g more = more (rest q) (sym (ap (λ b. found (cond b (Some y) (find p s))) q) ∙ g)

-- where no candidate is left, the next one is above the upper bound
none_left : (m : ℕ) (g : Group) (k : ℕ) → reached m g k ≡ Err Empty → is_below g.high (candidate m g k) ≡ false
unfolding reached
none_left m g k e = go (is_below g.high (candidate m g k)) (is_over (candidate m g k)) refl e where
  go : (b o : Bool) → is_over (candidate m g k) ≡ o → in_reach b (candidate m g k) ≡ Err Empty → b ≡ false
  go false o p q = refl
  go true true p q =
      let wrong : Err LimitMultiples ≡ Err Empty =
      sym (ap (λ t. if t then Err LimitMultiples else Ok (candidate m g k)) p) ∙ q in cc
  go true false p q =
      let wrong : Ok (candidate m g k) ≡ Err Empty =
      sym (ap (λ t. if t then Err LimitMultiples else Ok (candidate m g k)) p) ∙ q in cc

module _ (limit : ℕ) (g : Group) (x : ℤ) (met : is_met g x ≡ true) where
  record Meets : Type 0 where
    above : is_above g.low x ≡ true
    below : is_below g.high x ≡ true
    common : is_common g.multiples (unsigned_abs x) ≡ true
    listed : list_all (λ s. has s x) g.sets ≡ true
    spared : is_struck g x ≡ false

  meets : Meets
  meets =
      let (abcd, e) = and_parts _ _ met in
      let (abc, d) = and_parts _ _ abcd in
      let (ab, c) = and_parts _ _ abc in
      let (a, b) = and_parts _ _ ab in
      record { above = a; below = b; common = c; listed = d; spared = not-true (is_struck g x) e }

  in_order : (low high : Option ℤ) → is_above low x ≡ true → is_below high x ≡ true → is_crossed low high ≡ true → ⊥
  in_order (Some l) (Some h) a b c =
      let p : h <ℤ l = lt_from h l c in let q : l ≤ℤ x = le_from l x a in let r : x ≤ℤ h = le_from x h b in
      omega (arith, ints)
  in_order (Some l) None a b c = cc
  in_order None high a b c = cc

  -- the number is a candidate: struck, or one of those that are left
  struck_none : (j : ℕ) (r : Result ℤ Cases) → reached (lcm_of g.multiples) g j ≡ r
      → candidate (lcm_of g.multiples) g j ≡ x → is_last g r ≡ false → ⊥
  struck_none j (Err why) e p h = cc
  struck_none j (Ok c) e p h =
      let (t, q) = reached_Ok (lcm_of g.multiples) g j c e in
      true≢false
      (sym (subst (λ z. is_struck g z ≡ true) (sym q ∙ p) (not-false (is_struck g c) h)) ∙ meets.spared)

  ends_none : (k : ℕ) → StruckBefore (lcm_of g.multiples) g k → reached (lcm_of g.multiples) g k ≡ Err Empty → ⊥
  ends_none k before e =
      let (j, p) = some_place (lcm_of g.multiples) g.low g.high x (lcm_of_positive g.multiples)
      (lcm_divides g.multiples (unsigned_abs x) meets.common) meets.above meets.below in
      elim (cases_lt j k) [
        | inl l ↦ struck_none j (reached (lcm_of g.multiples) g j) refl p (before j l)
        | inr l ↦
            true≢false
            (sym (below_before (lcm_of g.multiples) g.low g.high k j l
            (subst (λ z. is_below g.high z ≡ true) (sym p) meets.below))
            ∙ none_left (lcm_of g.multiples) g k e)
      ]

  at_none : (k : ℕ) → StruckBefore (lcm_of g.multiples) g k
      → answer_at limit k (reached (lcm_of g.multiples) g k) ≡ Empty → ⊥
  at_none k before e = go (reached (lcm_of g.multiples) g k) refl e where
    found_one : (b : Bool) (c : ℤ) → (if b then LimitCandidates else Found c) ≡ Empty → ⊥
    found_one true c e = cc
    found_one false c e = cc

    go : (r : Result ℤ Cases) → reached (lcm_of g.multiples) g k ≡ r → answer_at limit k r ≡ Empty → ⊥
    go (Ok c) q e = found_one (k == limit) c e
    go (Err why) q e = ends_none k before (q ∙ ap (λ z. Err z) e)

  among_none : answer_among limit (lcm_of g.multiples) g ≡ Empty → ⊥
  among_none e = elim (least_below-cases (λ k. is_last g (reached (lcm_of g.multiples) g k)) limit) [
    | inl w ↦
        at_none w.0 w.3
        (sym (ap (λ n. answer_at limit n (reached (lcm_of g.multiples) g n)) w.4) ∙ e)
    | inr w ↦
        at_none limit w.0
        (sym (ap (λ n. answer_at limit n (reached (lcm_of g.multiples) g n)) w.1) ∙ e)
  ]

  multiples_none : answer_of_multiples limit (lcm_of g.multiples) g ≡ Empty → ⊥
  multiples_none e = go (nat_le (2 ^ 127) (lcm_of g.multiples))
      (list_any (λ b. lcm_of g.multiples % b == 0) g.not_multiples) refl e where
        go : (b o : Bool) → list_any (λ b. lcm_of g.multiples % b == 0) g.not_multiples ≡ o
            → (if b then LimitMultiples else (if o then Empty else answer_among limit (lcm_of g.multiples) g)) ≡ Empty
            → ⊥
        go true o f e = cc
        go false true f e =
            let d = lcm_divides g.multiples (unsigned_abs x) meets.common in
            true≢false
            (sym (some_divides g.not_multiples (lcm_of g.multiples) x d f)
            ∙ (or_parts (list_any (λ b. is_multiple b x) g.not_multiples) _ meets.spared).0)
        go false false f e = among_none e

  in_none : (ss : List (List ℤ)) → list_all (λ s. has s x) ss ≡ true → answer_in limit g ss ≡ Empty → ⊥
  in_none [] h e = multiples_none e
  in_none (s ∷ ss) h e = found_in (is_met g) s x met (and_parts (has s x) (list_all (λ s. has s x) ss) h).0 e

  -- a group whose outcome is that no number meets it is met by none
  pub outcome_none : outcome limit g ≡ Empty → ⊥
  outcome_none e = go (is_crossed g.low g.high) refl where
    go : (b : Bool) → is_crossed g.low g.high ≡ b → ⊥
    go true c = in_order g.low g.high meets.above meets.below c
    go false c = in_none g.sets meets.listed (sym (step limit g false c) ∙ e)
