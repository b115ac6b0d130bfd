-- Going back through the goals in order, a goal is used exactly where it is the first one or a used one behind it
-- contains it.
use Rattle.std.proofs.Common.{◌≡◌, ℕ, zero, suc, ◌≤◌, ◌<◌, ◌⊎◌, inl, inr, List, [], ◌∷◌, ◌++◌, length, drop, get_or, Bool, true, ◌&&◌, ◌||◌, nat_eq, refl, ap, sym, ◌∙◌, subst, arith, true≢false, eqb-true, eq-eqb}
use Rattle.std.proofs.lemmas.Bool.{and_parts, and_from, or_cases, or_left, or_right, cases_lt}
use Rattle.documents.specs.Tests.{some}
use Rattle.goals.specs.Signed.{Signed}
use Rattle.list_laws.specs.In.{IsIn}
use Rattle.list_laws.proofs.Lists.{from_append, in_right}
use Rattle.list_laws.proofs.Tests.{some_find, some_from}
use Rattle.alternatives.specs.Expansion.{Expansion}
use Rattle.search.specs.Explored.{Found}
use Rattle.search.specs.Rounds.{NumberedPlaced, round}
use Rattle.search.specs.Uses.{in_order, contents, uses}
use Rattle.search_laws.proofs.Answers.{Enters}
use Rattle.search_laws.proofs.Used.{Entered, entered, contents_below, uses_itself, uses_round, used_on, order_has, has_order, Beyond, beyond_to}
use Rattle.list_laws.proofs.Booleans.{same_test}

at_rest : {A : Type 0} (xs ys : List A) (j : ℕ) (d : A) → length xs ≤ j → j < length (xs ++ ys)
    → IsIn (get_or (xs ++ ys) j d) ys
at_rest [] [] j d l m = absurd (omega (arith, m))
at_rest [] (y ∷ ys) zero d l m = inl refl
at_rest [] (y ∷ ys) (suc j) d l m = inr (at_rest [] ys j d (omega arith) (omega (arith, m)))
at_rest (x ∷ xs) ys zero d l m = absurd (omega (arith, l))
at_rest (x ∷ xs) ys (suc j) d l m = at_rest xs ys j d (omega (arith, l)) (omega (arith, m))

drop_front : {A : Type 0} (n : ℕ) (xs ys : List A) → n ≤ length xs → drop n (xs ++ ys) ≡ drop n xs ++ ys
drop_front zero xs ys l = refl
drop_front (suc n) [] ys l = absurd (omega (arith, l))
drop_front (suc n) (x ∷ xs) ys l = drop_front n xs ys (omega (arith, l))

-- what is at a place of a list is in it
pub in_at : {A : Type 0} (xs : List A) (j : ℕ) (d : A) → j < length xs → IsIn (get_or xs j d) xs
in_at xs j d l = at_rest [] xs j d (omega arith) l

module _ (expansion : List Signed → Expansion) (f : Found) (n : ℕ)
    (reached : round expansion f (length f.goals) n ≡ true) where
  abbrev Count : ℕ
  Count = length f.goals

  abbrev Order : List ℕ
  Order = in_order expansion f (length f.goals)

  abbrev pub Contains : ℕ → ℕ → Bool
  Contains h m = some (λ p. nat_eq p.goal m) (contents expansion f h)

  -- it is the goal, or a used one of the list contains it
  abbrev pub marked : List ℕ → ℕ → Bool
  marked hs m = nat_eq n m
      || some (λ h. uses expansion f (length f.goals) n h && some (λ p. nat_eq p.goal m) (contents expansion f h)) hs

  -- what is used is the goal itself, or something used contains it
  inside : (k x m : ℕ) → uses expansion f k x m ≡ true
      → (x ≡ m) ⊎ ((h : ℕ) × (uses expansion f k x h ≡ true) × (p : NumberedPlaced) × IsIn p (contents expansion f h)
      × (p.goal ≡ m))
  inside zero x m e = inl (eqb-true x m e)
  inside (suc k) x m e =
      go (or_cases (nat_eq x m) (some (λ p. uses expansion f k p.goal m) (contents expansion f x)) e)
      (λ y. inside k y m) where
        go : (nat_eq x m ≡ true) ⊎ (some (λ p. uses expansion f k p.goal m) (contents expansion f x) ≡ true)
            → ((y : ℕ) → uses expansion f k y m ≡ true
            → (y ≡ m) ⊎ ((h : ℕ) × (uses expansion f k y h ≡ true) × (p : NumberedPlaced)
            × IsIn p (contents expansion f h) × (p.goal ≡ m)))
            → (x ≡ m) ⊎ ((h : ℕ) × (uses expansion f (suc k) x h ≡ true) × (p : NumberedPlaced)
            × IsIn p (contents expansion f h) × (p.goal ≡ m))
        go (inl a) more = inl (eqb-true x m a)
        go (inr a) more =
            let (p, i, u) = some_find (λ p. uses expansion f k p.goal m) (contents expansion f x) a in
            by p i (more p.goal u) where
              by : (p : NumberedPlaced) → IsIn p (contents expansion f x)
                  → (p.goal ≡ m) ⊎ ((h : ℕ) × (uses expansion f k p.goal h ≡ true) × (q : NumberedPlaced)
                  × IsIn q (contents expansion f h) × (q.goal ≡ m))
                  → (x ≡ m) ⊎ ((h : ℕ) × (uses expansion f (suc k) x h ≡ true) × (q : NumberedPlaced)
                  × IsIn q (contents expansion f h) × (q.goal ≡ m))
              by p i (inl s) = inr (x, uses_itself expansion f (suc k) x, p, i, s)
              by p i (inr (h, u, q, j, s)) = inr (
                h,
                or_right (nat_eq x h) (some (λ y. uses expansion f k y.goal h) (contents expansion f x))
                    (some_from (λ y. uses expansion f k y.goal h) p (contents expansion f x) i u),
                q,
                j,
                s,
              )

  -- what contains the goal at place j comes behind it
  holder_behind : (j h : ℕ) (p : NumberedPlaced) → j < length Order → uses expansion f Count n h ≡ true
      → IsIn p (contents expansion f h) → p.goal ≡ get_or Order j 0 → IsIn h (drop (suc j) Order)
  holder_behind j h p l u i s =
      let r : round expansion f Count h ≡ true = uses_round expansion f Count Count n h reached u in
      let e : Entered expansion f h = entered expansion f Count h r in
      let x : Enters expansion f h e.q e.place = e.enters in
      let few = e.few in
      let b : Beyond expansion f e.q Count = beyond_to expansion f e.q Count (omega (arith, few)) in
      let low : round expansion f e.q (get_or Order j 0) ≡ true =
      subst (λ z. round expansion f e.q z ≡ true) s (contents_below expansion f Count h r e p i) in
      let split : Order ≡ in_order expansion f e.q ++ b.rest = b.is in
      let front : j < length (in_order expansion f e.q) =
      go (in_order expansion f e.q) b.rest split (λ k. true≢false (sym low ∙ b.later (get_or Order j 0)
      (subst (λ z. IsIn z b.rest) (sym (ap (λ z. get_or z j 0) split))
      (at_rest (in_order expansion f e.q) b.rest j 0 k (subst (λ z. j < length z) split l))))) in
      subst (λ z. IsIn h (drop (suc j) z)) (sym split)
      (subst (λ z. IsIn h z) (sym (drop_front (suc j) (in_order expansion f e.q) b.rest (omega (arith, front))))
      (in_right h (drop (suc j) (in_order expansion f e.q)) b.rest
      (rest_of (in_order expansion f e.q) b.rest
      (from_append h (in_order expansion f e.q) b.rest (subst (λ z. IsIn h z) split (order_has expansion f Count h r)))
      (λ k. true≢false (sym (has_order expansion f e.q h k) ∙ x.before)))))
    where
      go : (xs ys : List ℕ) → Order ≡ xs ++ ys → (length xs ≤ j → ⊥) → j < length xs
      go xs ys e h = by (cases_lt j (length xs)) where
        by : (j < length xs) ⊎ (length xs ≤ j) → j < length xs
        by (inl k) = k
        by (inr k) = absurd (h k)

      rest_of : (xs ys : List ℕ) → IsIn h xs ⊎ IsIn h ys → (IsIn h xs → ⊥) → IsIn h ys
      rest_of xs ys (inl k) lacks = absurd (lacks k)
      rest_of xs ys (inr k) lacks = k

  -- the mark of the goal at a place says whether it is used
  pub mark_tells : (j : ℕ) → j < length Order
      → marked (drop (suc j) Order) (get_or Order j 0) ≡ uses expansion f Count n (get_or Order j 0)
  mark_tells j l = same_test (marked (drop (suc j) Order) o) (uses expansion f Count n o) forth back where
    o : ℕ
    o = get_or Order j 0

    forth : marked (drop (suc j) Order) o ≡ true → uses expansion f Count n o ≡ true
    forth e =
        go (or_cases (nat_eq n o)
        (some (λ h. uses expansion f Count n h && some (λ p. nat_eq p.goal o) (contents expansion f h))
        (drop (suc j) Order)) e) where
          go : (nat_eq n o ≡ true)
              ⊎ (some (λ h. uses expansion f Count n h && some (λ p. nat_eq p.goal o) (contents expansion f h))
              (drop (suc j) Order) ≡ true) → uses expansion f Count n o ≡ true
          go (inl a) = subst (λ z. uses expansion f Count n z ≡ true) (eqb-true n o a) (uses_itself expansion f Count n)
          go (inr a) =
              let (h, i, b) =
              some_find (λ h. uses expansion f Count n h && some (λ p. nat_eq p.goal o) (contents expansion f h))
              (drop (suc j) Order) a in
              let (u, c) =
              and_parts (uses expansion f Count n h) (some (λ p. nat_eq p.goal o) (contents expansion f h)) b in
              let (p, k, s) = some_find (λ p. nat_eq p.goal o) (contents expansion f h) c in
              subst (λ z. uses expansion f Count n z ≡ true) (eqb-true p.goal o s) (used_on expansion f n h p
              reached u k)

    back : uses expansion f Count n o ≡ true → marked (drop (suc j) Order) o ≡ true
    back e = go (inside Count n o e) where
      go : (n ≡ o) ⊎ ((h : ℕ) × (uses expansion f Count n h ≡ true) × (p : NumberedPlaced)
          × IsIn p (contents expansion f h) × (p.goal ≡ o)) → marked (drop (suc j) Order) o ≡ true
      go (inl s) = or_left (nat_eq n o)
          (some (λ h. uses expansion f Count n h && some (λ p. nat_eq p.goal o) (contents expansion f h))
          (drop (suc j) Order)) (eq-eqb n o s)
      go (inr (h, u, p, i, s)) = or_right (nat_eq n o)
          (some (λ h. uses expansion f Count n h && some (λ p. nat_eq p.goal o) (contents expansion f h))
          (drop (suc j) Order))
          (some_from (λ h. uses expansion f Count n h && some (λ p. nat_eq p.goal o) (contents expansion f h)) h
          (drop (suc j) Order) (holder_behind j h p l u i s)
          (and_from (uses expansion f Count n h) (some (λ p. nat_eq p.goal o) (contents expansion f h)) u
          (some_from (λ p. nat_eq p.goal o) p (contents expansion f h) i (eq-eqb p.goal o s))))
