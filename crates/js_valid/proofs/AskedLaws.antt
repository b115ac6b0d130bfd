-- The entries that are applied: what is pending has lesser places as it goes, and what an entry names in place comes to
-- one of the lists. So verdicts that are taken from the end of the list are right.
use Rattle.std.proofs.Common.{◌≡◌, ℕ, zero, suc, max, ◌-◌, ◌<◌, ◌≤◌, ◌⊎◌, inl, inr, List, [], ◌∷◌, ◌++◌, map, drop, length, get_or, Bool, true, false, ◌||◌, ◌&&◌, nat_eq, nat_lt, if◌then◌else◌, refl, sym, ap, subst, ◌∙◌, arith, true≢false}
use Rattle.std.proofs.lemmas.Bool.{and_parts, and_from, or_cases, eqb-true, eq-eqb, cases_lt, lt-ltb, le-ltb, ltb-true}
use Rattle.documents.specs.Document.{Document}
use Rattle.documents.specs.Tests.{every}
use Rattle.levels.proofs.LevelsLaws.{everywhere}
use Rattle.schemas.specs.Entry.{Entry}
use Rattle.schemas.specs.Schema.{in_place, of_parts}
use Rattle.draft06.specs.EntryValidity.{asks, form_at}
use Rattle.draft06_laws.proofs.EntryLaws.{entry_valid-asks}
use Rattle.draft06_laws.proofs.EntryLocal.{asks_same}
use Rattle.js_match.specs.Matching.{matches}
use Rattle.js_match.specs.Places.{is_at}
use Rattle.js_match.proofs.LeadsLaws.{or_left_true, or_right_true}
use Rattle.js_valid.specs.AskedEntries.{placed, ClosedIn, IsAsked, AsksFor, Takes}
use Rattle.js_valid.specs.declared.asked.Asked.{Asked}
use Rattle.js_valid.specs.declared.plan.Plan.{Plan}
use Rattle.js_valid.specs.Parts.{flag, parts}
use Rattle.js_valid.specs.Plan.{IsPlanned, valid_at}
use Rattle.js_valid.specs.Standing.{stands, place_asks}
use Rattle.js_valid.proofs.Halves.{asks-halves}
use Rattle.js_valid.proofs.PlanLaws.{all-from, target-below, target-falls, valid-past}
use Rattle.js_valid.proofs.PlaceLaws.{is_at-end, is_at-left, is_at-right, is_at-one}
use Rattle.js_valid.proofs.RequestLaws.{cons_at}
use Rattle.js_valid.proofs.StandLaws.{own-halves}

-- ---- members of lists

every-end : (n x : ℕ) (xs : List ℕ) → every (λ o. nat_lt o n) xs ≡ true → x < n
    → every (λ o. nat_lt o n) (xs ++ x ∷ []) ≡ true
every-end n x [] h l = and_from _ _ (lt-ltb x n l) refl
every-end n x (y ∷ xs) h l =
    let parts = and_parts (nat_lt y n) (every (λ o. nat_lt o n) xs) h in
    and_from _ _ parts.0 (every-end n x xs parts.1 l)

pub placed-at : (ps xs : List ℕ) (q : ℕ) → is_at q xs ≡ true → is_at (get_or ps q 0) (placed ps xs) ≡ true
placed-at ps [] q h = absurd (true≢false (sym h))
placed-at ps (x ∷ xs) q h = elim (or_cases (nat_eq x q) (is_at q xs) h) [
  | inl e ↦ or_left_true _ _ (eq-eqb _ _ (ap (λ y. get_or ps y 0) (eqb-true x q e)))
  | inr r ↦ or_right_true _ _ (placed-at ps xs q r)
]

pub placed-from : (ps xs : List ℕ) (k : ℕ) → is_at k (placed ps xs) ≡ true
    → (q : ℕ) × (is_at q xs ≡ true) × (get_or ps q 0 ≡ k)
placed-from ps [] k h = absurd (true≢false (sym h))
placed-from ps (x ∷ xs) k h = elim (or_cases (nat_eq (get_or ps x 0) k) (is_at k (placed ps xs)) h) [
  | inl e ↦ (x, or_left_true _ _ (eq-eqb x x refl), eqb-true _ k e)
  | inr r ↦ let (q, a, b) = placed-from ps xs k r in (q, or_right_true _ _ a, b)
]

-- ---- the greatest place

abbrev pub top : List ℕ → ℕ
top [] = 0
top (k ∷ ks) = max (suc k) (top ks)

pub top-least : (p : ℕ) (ks : List ℕ) → ((k : ℕ) → is_at k ks ≡ true → k < p) → top ks ≤ p
top-least p [] h = omega arith
top-least p (k ∷ ks) h =
    let first = h k (or_left_true (nat_eq k k) (is_at k ks) (eq-eqb k k refl)) in
    let rest = top-least p ks (λ j l. h j (or_right_true (nat_eq k j) (is_at j ks) l)) in
    omega (arith, first, rest)

pub top-last : (p : ℕ) (ks : List ℕ) → p < top (ks ++ p ∷ [])
top-last p [] = omega arith
top-last p (k ∷ ks) = let rest = top-last p ks in omega (arith, rest)

-- a place that is taken without any other
pub top-popped : (p : ℕ) (ks : List ℕ) → ((k : ℕ) → is_at k ks ≡ true → k < p) → top ks < top (ks ++ p ∷ [])
top-popped p ks h =
    let most = top-least p ks h in
    let last = top-last p ks in
    omega (arith, most, last)

-- ---- lists that are closed

module _ (es : List Entry) where
  pub closed-drop : (others : ℕ → Bool) (os : List ℕ) (i : ℕ) → ClosedIn es others os → ClosedIn es others (drop i os)
  closed-drop others [] zero h = h
  closed-drop others [] (suc i) h = h
  closed-drop others (o ∷ os) zero h = h
  closed-drop others (o ∷ os) (suc i) h = closed-drop others os i h.1

-- in the list of those that have fallen, or pending
abbrev pub known_by : Plan → Asked → List ℕ → ℕ → Bool
known_by p a pending q = is_at q a.fallen.items || is_at (get_or p.places.items q 0) pending

-- what is known on the way, while places are pending
pub record Ahead (es : List Entry) (J : Document) (p : Plan) (wanted pending : List ℕ) (a : Asked) : Type 0 where
  pub range : every (λ o. nat_lt o (length es)) a.owners.items ≡ true
  pub stand : (q : ℕ) → is_at q a.owners.items ≡ true → stands matches (form_at es q) J ≡ true
  pub fall : (q : ℕ) → is_at q a.fallen.items ≡ true → valid_at es q J ≡ false
  pub closed : ClosedIn es (known_by p a pending) a.owners.items
  pub all : (q : ℕ) → q < length es → is_at q wanted ≡ true
      → (is_at q a.owners.items || known_by p a pending q) ≡ true

append-none : (xs : List ℕ) → xs ++ [] ≡ xs
append-none [] = refl
append-none (x ∷ xs) = ap (λ ys. x ∷ ys) (append-none xs)

module _ (es : List Entry) (p : Plan) (planned : IsPlanned es p) (J : Document) where
  pub valid-asks : (e : ℕ) → valid_at es e J ≡ asks matches (λ q. valid_at es q J) (valid_at es) (form_at es e) J
  valid-asks e = entry_valid-asks matches es planned.plan.table planned.plan.rank planned.plan.falls e J

  fallen-invalid : (e : ℕ) → stands matches (form_at es e) J ≡ false → valid_at es e J ≡ false
  fallen-invalid e h =
      valid-asks e ∙ asks-halves matches (λ q. valid_at es q J) (valid_at es) (form_at es e) J
      ∙ ap (λ b. b && parts matches (valid_at es) (form_at es e) J) (own-halves matches (λ q. valid_at es q J)
      (form_at es e) J)
      ∙ ap (λ b. (b && place_asks (λ q. valid_at es q J) (form_at es e) J)
      && parts matches (valid_at es) (form_at es e) J) h

  below-owner : (o : ℕ) (os : List ℕ) → every (λ x. nat_lt x (length es)) (o ∷ os) ≡ true
      → (o < length es) × (every (λ x. nat_lt x (length es)) os ≡ true)
  below-owner o os h =
      let parts = and_parts (nat_lt o (length es)) (every (λ x. nat_lt x (length es)) os) h in
      (ltb-true o (length es) parts.0, parts.1)

  closed-more : (before after : ℕ → Bool) (xs os : List ℕ) → every (λ o. nat_lt o (length es)) os ≡ true
      → ((q : ℕ) → q < length es → before q ≡ true → (is_at q xs || after q) ≡ true)
      → ClosedIn es after xs → ClosedIn es before os → ClosedIn es after (os ++ xs)
  closed-more before after xs [] range h last c = last
  closed-more before after xs (o ∷ os) range h last c = (
    λ q t. go q t (or_cases (is_at q os) (before q) (c.0 q t)),
    closed-more before after xs os (below-owner o os range).1 h last c.1,
  )
    where
      go : (q : ℕ) → is_at q (in_place (form_at es o)) ≡ true → (is_at q os ≡ true) ⊎ (before q ≡ true)
          → (is_at q (os ++ xs) || after q) ≡ true
      go q t (inl l) = or_left_true (is_at q (os ++ xs)) (after q) (is_at-left q os xs l)
      go q t (inr r) = elim (or_cases (is_at q xs) (after q)
          (h q (target-below es p.order.items planned.plan o q (below-owner o os range).0 t) r)) [
            | inl l ↦ or_left_true (is_at q (os ++ xs)) (after q) (is_at-right q os xs l)
            | inr k ↦ or_right_true (is_at q (os ++ xs)) (after q) k
          ]

  all-more : (before after : ℕ → Bool) (xs os : List ℕ) (q : ℕ) → (before q ≡ true → (is_at q xs || after q) ≡ true)
      → (is_at q os || before q) ≡ true → (is_at q (os ++ xs) || after q) ≡ true
  all-more before after xs os q h k = elim (or_cases (is_at q os) (before q) k) [
    | inl l ↦ or_left_true (is_at q (os ++ xs)) (after q) (is_at-left q os xs l)
    | inr r ↦ elim (or_cases (is_at q xs) (after q) (h r)) [
      | inl l ↦ or_left_true (is_at q (os ++ xs)) (after q) (is_at-right q os xs l)
      | inr m ↦ or_right_true (is_at q (os ++ xs)) (after q) m
    ]
  ]

  pub ahead-first : (wanted pending : List ℕ) (a : Asked) → a.owners.items ≡ [] → a.fallen.items ≡ []
      → ((k : ℕ) → is_at k pending ≡ is_at k (placed p.places.items wanted)) → Ahead es J p wanted pending a
  ahead-first wanted pending a os fs h = record {
    range = ap (every (λ o. nat_lt o (length es))) os;
    stand = λ q k. absurd (true≢false (sym k ∙ ap (is_at q) os));
    fall = λ q k. absurd (true≢false (sym k ∙ ap (is_at q) fs));
    closed = subst (ClosedIn es (known_by p a pending)) (sym os) tt;
    all = λ q l w. or_right_true (is_at q a.owners.items) (known_by p a pending q)
        (or_right_true (is_at q a.fallen.items) (is_at (get_or p.places.items q 0) pending)
        (h (get_or p.places.items q 0) ∙ placed-at p.places.items wanted q w));
  }

  -- nothing is beyond the order
  pub ahead-past : (wanted mid : List ℕ) (k : ℕ) (a : Asked) → length p.order.items ≤ k
      → Ahead es J p wanted (mid ++ k ∷ []) a → Ahead es J p wanted mid a
  ahead-past wanted mid k a far h = record {
    range = h.range;
    stand = h.stand;
    fall = h.fall;
    closed = subst (ClosedIn es (known_by p a mid)) (append-none a.owners.items)
        (closed-more (known_by p a (mid ++ k ∷ [])) (known_by p a mid) [] a.owners.items h.range keeps tt h.closed);
    all = λ q l w. subst (λ os. (is_at q os || known_by p a mid q) ≡ true) (append-none a.owners.items)
        (all-more (known_by p a (mid ++ k ∷ [])) (known_by p a mid) [] a.owners.items q (keeps q l) (h.all q l w));
  }
    where
      keeps : (q : ℕ) → q < length es → known_by p a (mid ++ k ∷ []) q ≡ true
          → (is_at q [] || known_by p a mid q) ≡ true
      keeps q l h = elim (or_cases (is_at q a.fallen.items) (is_at (get_or p.places.items q 0) (mid ++ k ∷ [])) h) [
        | inl f ↦ or_left_true (is_at q a.fallen.items) (is_at (get_or p.places.items q 0) mid) f
        | inr r ↦ elim (is_at-end k (get_or p.places.items q 0) mid r) [
          | inl m ↦ or_right_true (is_at q a.fallen.items) (is_at (get_or p.places.items q 0) mid) m
          | inr same ↦ let within = (planned.places q l).0 in absurd (omega (arith, far, same, within))
        ]
      ]

  -- what is pending where the greatest place is taken is still pending, or it is the entry of that place
  left-pending : (mid : List ℕ) (k q : ℕ) → q < length es → is_at (get_or p.places.items q 0) (mid ++ k ∷ []) ≡ true
      → (is_at (get_or p.places.items q 0) mid ≡ true) ⊎ (get_or p.order.items k 0 ≡ q)
  left-pending mid k q l h = elim (is_at-end k (get_or p.places.items q 0) mid h) [
    | inl m ↦ inl m
    | inr same ↦ inr (ap (λ x. get_or p.order.items x 0) same ∙ (planned.places q l).1)
  ]

  -- an entry that stands by itself
  pub ahead-stands : (wanted mid after : List ℕ) (k : ℕ) (a b : Asked) → k < length p.order.items
      → stands matches (form_at es (get_or p.order.items k 0)) J ≡ true
      → Takes true (get_or p.order.items k 0) (placed p.places.items (in_place (form_at es (get_or p.order.items k 0))))
      mid after a b
      → Ahead es J p wanted (mid ++ k ∷ []) a → Ahead es J p wanted after b
  ahead-stands wanted mid after k a b less st takes h = record {
    range = ap (every (λ o. nat_lt o (length es))) takes.0
        ∙ every-end (length es) e a.owners.items h.range (planned.plan.only k less);
    stand = λ q t. elim (is_at-end e q a.owners.items (sym (ap (is_at q) takes.0) ∙ t)) [
      | inl l ↦ h.stand q l
      | inr same ↦ subst (λ x. stands matches (form_at es x) J ≡ true) same st
    ];
    fall = λ q t. h.fall q (sym (ap (is_at q) takes.1) ∙ t);
    closed = subst (ClosedIn es (known_by p b after)) (sym takes.0)
        (closed-more (known_by p a (mid ++ k ∷ [])) (known_by p b after) (e ∷ []) a.owners.items h.range keeps
        (λ q t. or_right_true false (known_by p b after q) (target q t), tt) h.closed);
    all = λ q l w. subst (λ os. (is_at q os || known_by p b after q) ≡ true) (sym takes.0)
        (all-more (known_by p a (mid ++ k ∷ [])) (known_by p b after) (e ∷ []) a.owners.items q (keeps q l)
        (h.all q l w));
  }
    where
      e : ℕ
      e = get_or p.order.items k 0

      target : (q : ℕ) → is_at q (in_place (form_at es (get_or p.order.items k 0))) ≡ true → known_by p b after q ≡ true
      target q t =
          or_right_true (is_at q b.fallen.items) (is_at (get_or p.places.items q 0) after)
          (takes.2 (get_or p.places.items q 0)
          ∙ or_right_true (is_at (get_or p.places.items q 0) mid) _ (placed-at p.places.items _ q t))

      keeps : (q : ℕ) → q < length es → known_by p a (mid ++ k ∷ []) q ≡ true
          → (is_at q (get_or p.order.items k 0 ∷ []) || known_by p b after q) ≡ true
      keeps q l h = elim (or_cases (is_at q a.fallen.items) (is_at (get_or p.places.items q 0) (mid ++ k ∷ [])) h) [
        | inl f ↦ or_right_true (is_at q (get_or p.order.items k 0 ∷ [])) (known_by p b after q)
            (or_left_true (is_at q b.fallen.items) (is_at (get_or p.places.items q 0) after)
            (ap (is_at q) takes.1 ∙ f))
        | inr r ↦ elim (left-pending mid k q l r) [
          | inl m ↦ or_right_true (is_at q (get_or p.order.items k 0 ∷ [])) (known_by p b after q)
              (or_right_true (is_at q b.fallen.items) (is_at (get_or p.places.items q 0) after)
              (takes.2 (get_or p.places.items q 0) ∙ or_left_true (is_at (get_or p.places.items q 0) mid) _ m))
          | inr same ↦ or_left_true (is_at q (get_or p.order.items k 0 ∷ [])) (known_by p b after q)
              (subst (λ x. is_at x (get_or p.order.items k 0 ∷ []) ≡ true) same (is_at-one (get_or p.order.items k 0)))
        ]
      ]

  -- one that doesn't stand by itself falls, and leads to no other
  pub ahead-falls : (wanted mid after : List ℕ) (k : ℕ) (a b : Asked)
      → stands matches (form_at es (get_or p.order.items k 0)) J ≡ false
      → Takes false (get_or p.order.items k 0)
      (placed p.places.items (in_place (form_at es (get_or p.order.items k 0)))) mid after a b
      → Ahead es J p wanted (mid ++ k ∷ []) a → Ahead es J p wanted after b
  ahead-falls wanted mid after k a b st takes h = record {
    range = ap (every (λ o. nat_lt o (length es))) takes.0 ∙ h.range;
    stand = λ q t. h.stand q (sym (ap (is_at q) takes.0) ∙ t);
    fall = λ q t. elim (is_at-end (get_or p.order.items k 0) q a.fallen.items (sym (ap (is_at q) takes.1) ∙ t)) [
      | inl l ↦ h.fall q l
      | inr same ↦ subst (λ x. valid_at es x J ≡ false) same (fallen-invalid (get_or p.order.items k 0) st)
    ];
    closed = subst (ClosedIn es (known_by p b after)) (append-none a.owners.items ∙ sym takes.0)
        (closed-more (known_by p a (mid ++ k ∷ [])) (known_by p b after) [] a.owners.items h.range keeps tt h.closed);
    all = λ q l w. subst (λ os. (is_at q os || known_by p b after q) ≡ true) (append-none a.owners.items ∙ sym takes.0)
        (all-more (known_by p a (mid ++ k ∷ [])) (known_by p b after) [] a.owners.items q (keeps q l) (h.all q l w));
  }
    where
      keeps : (q : ℕ) → q < length es → known_by p a (mid ++ k ∷ []) q ≡ true
          → (is_at q [] || known_by p b after q) ≡ true
      keeps q l h = elim (or_cases (is_at q a.fallen.items) (is_at (get_or p.places.items q 0) (mid ++ k ∷ [])) h) [
        | inl f ↦ or_left_true (is_at q b.fallen.items) (is_at (get_or p.places.items q 0) after)
            (ap (is_at q) takes.1 ∙ is_at-left q a.fallen.items (get_or p.order.items k 0 ∷ []) f)
        | inr r ↦ elim (left-pending mid k q l r) [
          | inl m ↦ or_right_true (is_at q b.fallen.items) (is_at (get_or p.places.items q 0) after)
              (ap (is_at (get_or p.places.items q 0)) takes.2 ∙ m)
          | inr same ↦ or_left_true (is_at q b.fallen.items) (is_at (get_or p.places.items q 0) after)
              (ap (is_at q) takes.1 ∙ is_at-right q a.fallen.items (get_or p.order.items k 0 ∷ [])
              (subst (λ x. is_at x (get_or p.order.items k 0 ∷ []) ≡ true) same (is_at-one (get_or p.order.items k 0))))
        ]
      ]

  -- by whether it stands by itself
  pub ahead-more : (st : Bool) (wanted mid after : List ℕ) (k : ℕ) (a b : Asked) → k < length p.order.items
      → stands matches (form_at es (get_or p.order.items k 0)) J ≡ st
      → Takes st (get_or p.order.items k 0) (placed p.places.items (in_place (form_at es (get_or p.order.items k 0))))
      mid after a b
      → Ahead es J p wanted (mid ++ k ∷ []) a → Ahead es J p wanted after b
  ahead-more true wanted mid after k a b less st takes h = ahead-stands wanted mid after k a b less st takes h
  ahead-more false wanted mid after k a b less st takes h = ahead-falls wanted mid after k a b st takes h

  -- what is named in place comes before
  place-falls : (k q : ℕ) → k < length p.order.items
      → is_at q (in_place (form_at es (get_or p.order.items k 0))) ≡ true → get_or p.places.items q 0 < k
  place-falls k q less t =
      let e = planned.plan.only k less in
      let l = target-below es p.order.items planned.plan (get_or p.order.items k 0) q e t in
      let falls = target-falls es p.order.items planned.plan (get_or p.order.items k 0) q e t in
      elim (cases_lt (get_or p.places.items q 0) k) [
        | inl before ↦ before
        | inr after ↦
            let rises = planned.plan.rises k (get_or p.places.items q 0) after (planned.places q l).0 in
            let same = ap planned.plan.rank (planned.places q l).1 in
            absurd (omega (arith, falls, rises, same))
      ]

  pub top-falls : (st : Bool) (mid after : List ℕ) (k : ℕ) (a b : Asked) → k < length p.order.items
      → ((j : ℕ) → is_at j mid ≡ true → j < k)
      → Takes st (get_or p.order.items k 0) (placed p.places.items (in_place (form_at es (get_or p.order.items k 0))))
      mid after a b
      → top after < top (mid ++ k ∷ [])
  top-falls true mid after k a b less below takes =
      let most = top-least k after (λ j t. elim (or_cases (is_at j mid) _ (sym (takes.2 j) ∙ t)) [
        | inl m ↦ below j m
        | inr r ↦
            let (q, named, same) = placed-from p.places.items _ j r in
            let falls = place-falls k q less named in
            omega (arith, falls, same)
      ]) in
      let last = top-last k mid in
      omega (arith, most, last)
  top-falls false mid after k a b less below takes =
      let most = top-least k after (λ j t. below j (sym (ap (is_at j) takes.2) ∙ t)) in
      let last = top-last k mid in
      omega (arith, most, last)

  pub ahead-done : (wanted : List ℕ) (a : Asked) → Ahead es J p wanted [] a → IsAsked es J a
  ahead-done wanted a h = record {
    range = h.range;
    stand = h.stand;
    fall = h.fall;
    closed = closed-alike a.owners.items h.closed;
    valid = valid-asks;
  }
    where
      closed-alike : (os : List ℕ) → ClosedIn es (known_by p a []) os → ClosedIn es (λ q. is_at q a.fallen.items) os
      closed-alike [] c = tt
      closed-alike (o ∷ os) c = (
        λ q t. ap (λ b. is_at q os || b) (sym (or_false (is_at q a.fallen.items))) ∙ c.0 q t,
        closed-alike os c.1,
      )
        where
          or_false : (b : Bool) → (b || false) ≡ b
          or_false true = refl
          or_false false = refl

-- what a look at an entry makes
pub takes-true : (st : Bool) (e : ℕ) (targets before after : List ℕ) (a b : Asked) → st ≡ true
    → b.owners.items ≡ a.owners.items ++ e ∷ [] → b.fallen.items ≡ a.fallen.items
    → ((k : ℕ) → is_at k after ≡ (is_at k before || is_at k targets)) → Takes st e targets before after a b
takes-true true e targets before after a b is owners fallen more = (owners, fallen, more)
takes-true false e targets before after a b is owners fallen more = absurd (true≢false (sym is))

pub takes-false : (st : Bool) (e : ℕ) (targets before after : List ℕ) (a b : Asked) → st ≡ false
    → b.owners.items ≡ a.owners.items → b.fallen.items ≡ a.fallen.items ++ e ∷ [] → after ≡ before
    → Takes st e targets before after a b
takes-false true e targets before after a b is owners fallen same = absurd (true≢false is)
takes-false false e targets before after a b is owners fallen same = (owners, fallen, same)

-- ---- verdicts from the end of the list

-- what is known where the verdicts from a place on are taken
pub record Taken (es : List Entry) (J : Document) (a : Asked) (left : ℕ) (held : List Bool) : Type 0 where
  pub within : left ≤ length a.owners.items
  pub fell : (q : ℕ) → is_at q a.fallen.items ≡ true → flag held q ≡ valid_at es q J
  pub known : (q : ℕ) → is_at q (drop left a.owners.items) ≡ true → flag held q ≡ valid_at es q J

module _ (es : List Entry) (J : Document) (a : Asked) (asked : IsAsked es J a) where
  -- a verdict from the verdicts of those that are named in place, and from what is known of parts
  pub verdict-right : (o : ℕ) (held : List Bool) (f v : Bool)
      → is_at o a.owners.items ≡ true
      → ((q : ℕ) → is_at q (in_place (form_at es o)) ≡ true → flag held q ≡ valid_at es q J)
      → f ≡ parts matches (valid_at es) (form_at es o) J
      → v ≡ (f && place_asks (flag held) (form_at es o) J) → v ≡ valid_at es o J
  verdict-right o held f v own_o here fine is =
      is ∙ and_swap f (place_asks (flag held) (form_at es o) J)
      ∙ ap (λ b. place_asks (flag held) (form_at es o) J && b) fine
      ∙ sym (ap (λ b. (b && place_asks (flag held) (form_at es o) J) && parts matches (valid_at es) (form_at es o) J)
      (asked.stand o own_o))
      ∙ ap (λ b. b && parts matches (valid_at es) (form_at es o) J)
      (sym (own-halves matches (flag held) (form_at es o) J))
      ∙ sym (asks-halves matches (flag held) (valid_at es) (form_at es o) J)
      ∙ asks_same matches (flag held) (λ q. valid_at es q J) (valid_at es) (valid_at es) (form_at es o) J
      (all-from (λ q. flag held q ≡ valid_at es q J) (in_place (form_at es o)) here)
      (everywhere _ (of_parts (form_at es o)) (λ q K l. refl))
      ∙ sym (asked.valid o)
    where
      and_swap : (a b : Bool) → (a && b) ≡ (b && a)
      and_swap true true = refl
      and_swap true false = refl
      and_swap false true = refl
      and_swap false false = refl

  pub taken-more : (left : ℕ) (held held' : List Bool) (f v : Bool) → 0 < left → Taken es J a left held
      → f ≡ parts matches (valid_at es) (form_at es (get_or a.owners.items (left - 1) 0)) J
      → v ≡ (f && place_asks (flag held) (form_at es (get_or a.owners.items (left - 1) 0)) J)
      → ((j : ℕ) → flag held' j ≡ (if nat_eq (get_or a.owners.items (left - 1) 0) j then v else flag held j))
      → Taken es J a (left - 1) held'
  taken-more left held held' f v some h fine is set = record {
    within = omega (arith, h.within);
    fell = λ q t. written q (h.fell q t);
    known = λ q t. elim (or_cases (nat_eq o q) (is_at q (drop left a.owners.items)) (sym (ap (is_at q) split) ∙ t)) [
      | inl e ↦ subst (λ x. flag held' x ≡ valid_at es x J) (eqb-true o q e) own_written
      | inr r ↦ written q (h.known q r)
    ];
  }
    where
      o : ℕ
      o = get_or a.owners.items (left - 1) 0

      split : drop (left - 1) a.owners.items ≡ get_or a.owners.items (left - 1) 0 ∷ drop left a.owners.items
      split =
          cons_at a.owners.items (left - 1) (omega (arith, some, h.within))
          ∙ ap (λ n. get_or a.owners.items (left - 1) 0 ∷ drop n a.owners.items) (omega (arith, some))

      right : v ≡ valid_at es (get_or a.owners.items (left - 1) 0) J
      right =
          let closed = subst (ClosedIn es (λ q. is_at q a.fallen.items)) split
          (closed-drop es (λ q. is_at q a.fallen.items) a.owners.items (left - 1) asked.closed) in
          verdict-right (get_or a.owners.items (left - 1) 0) held f v
          (is_at-got a.owners.items (left - 1) (omega (arith, some, h.within)))
          (λ q t. elim (or_cases (is_at q (drop left a.owners.items)) (is_at q a.fallen.items) (closed.0 q t)) [
            | inl l ↦ h.known q l
            | inr r ↦ h.fell q r
          ]) fine is
        where
          is_at-got : (xs : List ℕ) (i : ℕ) → i < length xs → is_at (get_or xs i 0) xs ≡ true
          is_at-got [] i l = absurd (omega (arith, l))
          is_at-got (x ∷ xs) zero l = or_left_true (nat_eq x x) (is_at x xs) (eq-eqb x x refl)
          is_at-got (x ∷ xs) (suc i) l =
              or_right_true (nat_eq x (get_or xs i 0)) (is_at (get_or xs i 0) xs) (is_at-got xs i (omega (arith, l)))

      written : (q : ℕ) → flag held q ≡ valid_at es q J → flag held' q ≡ valid_at es q J
      written q before = go (nat_eq (get_or a.owners.items (left - 1) 0) q) refl
        where
          go : (b : Bool) → nat_eq (get_or a.owners.items (left - 1) 0) q ≡ b → flag held' q ≡ valid_at es q J
          go true e =
              set q ∙ ap (λ b. if b then v else flag held q) e ∙ right
              ∙ ap (λ x. valid_at es x J) (eqb-true (get_or a.owners.items (left - 1) 0) q e)
          go false e = set q ∙ ap (λ b. if b then v else flag held q) e ∙ before

      own_written : flag held' (get_or a.owners.items (left - 1) 0) ≡ valid_at es (get_or a.owners.items (left - 1) 0) J
      own_written =
          set (get_or a.owners.items (left - 1) 0)
          ∙ ap (λ b. if b then v else flag held (get_or a.owners.items (left - 1) 0))
          (eq-eqb (get_or a.owners.items (left - 1) 0) (get_or a.owners.items (left - 1) 0) refl) ∙ right

  pub taken-all : (held : List Bool) (left : ℕ) → left ≤ 0 → Taken es J a left held
      → (q : ℕ) → (is_at q a.owners.items || is_at q a.fallen.items) ≡ true → flag held q ≡ valid_at es q J
  taken-all held zero none h q t = elim (or_cases (is_at q a.owners.items) (is_at q a.fallen.items) t) [
    | inl l ↦ h.known q l
    | inr r ↦ h.fell q r
  ]
  taken-all held (suc left) none h q t = absurd (omega (arith, none))

-- the verdicts of a list of entries
pub verdicts-of : (es : List Entry) (p : Plan) → IsPlanned es p → (J : Document) (a : Asked) (held : List Bool)
    (qs : List ℕ)
    → ((q : ℕ) → (is_at q a.owners.items || is_at q a.fallen.items) ≡ true → flag held q ≡ valid_at es q J)
    → AsksFor es qs a
    → map (λ q. nat_lt q (length es) && flag held q) qs ≡ map (λ q. valid_at es q J) qs
verdicts-of es p planned J a held [] known asked = refl
verdicts-of es p planned J a held (q ∷ qs) known asked =
    ap (λ b. b ∷ map (λ q. nat_lt q (length es) && flag held q) qs) (here (cases_lt q (length es)))
    ∙ ap (λ bs. valid_at es q J ∷ bs) (verdicts-of es p planned J a held qs known
    (λ r l h. asked r l (or_right_true (nat_eq q r) (is_at r qs) h)))
  where
    here : (q < length es) ⊎ (length es ≤ q) → (nat_lt q (length es) && flag held q) ≡ valid_at es q J
    here (inl l) =
        ap (λ b. b && flag held q) (lt-ltb q (length es) l)
        ∙ known q (asked q l (or_left_true (nat_eq q q) (is_at q qs) (eq-eqb q q refl)))
    here (inr l) =
        ap (λ b. b && flag held q) (le-ltb q (length es) l) ∙ sym (valid-past es p.order.items planned.plan q J l)
