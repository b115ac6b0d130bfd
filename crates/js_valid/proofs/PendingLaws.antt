-- A set of places in rising order, and the place of each entry in an order.
use Rattle.std.proofs.Common.{◌≡◌, ℕ, suc, ◌+◌, ◌<◌, ◌≤◌, ◌↔◌, inl, inr, List, [], ◌∷◌, ◌++◌, length, get_or, Bool, true, false, ◌||◌, cond, nat_eq, nat_lt, if◌then◌else◌, Option, None, Some, Bor, is_some, IsSome, IfSome, IfNone, OnSome, Less, Equal, Greater, refl, sym, ap, ◌∙◌, subst, arith, true≢false}
use Rattle.std.proofs.Math.Bool.{or_comm}
use Rattle.std.proofs.lemmas.Bool.{eqb-true, eq-eqb, or_cases, cases_lt, cases_eq, cases_order, cases_Bool, lt-ltb, ltb-true}
use Rattle.std.proofs.lemmas.List.Sorted.{list_any-IsPermutation, le_from_greatest}
use Rattle.std.specs.Ordering.{nat_cmp, match_ordering}
use Rattle.std.specs.BinaryHeap.{IsHeap, IsUpperBound, PopsGreatest}
use Rattle.std.specs.BTreeSet.{insert_key}
use Rattle.std.specs.List.{All}
use Rattle.std.specs.List.Sorted.{IsPermutation}
use Rattle.js_match.specs.Places.{is_at}
use Rattle.js_match.proofs.LeadsLaws.{or_left_true, or_right_true}
use Rattle.js_valid.specs.PendingPlaces.{rising}
use Rattle.js_valid.specs.Plan.{StandAt}
use Rattle.js_valid.proofs.PlaceLaws.{is_at-end}
use Rattle.js_valid.proofs.TestLaws.{any-some}

-- an insertion adds the place
pub is_at-insert : (k p : ℕ) (ks : List ℕ) → is_at k (insert_key nat_cmp ks p) ≡ (is_at k ks || nat_eq p k)
is_at-insert k p [] = or_false (nat_eq p k)
  where
    or_false : (b : Bool) → (b || false) ≡ b
    or_false true = refl
    or_false false = refl
is_at-insert k p (x ∷ ks) = go (nat_lt p x) (nat_eq p x) refl (is_at-insert k p ks)
  where
    first : (a b c : Bool) → (a || (b || c)) ≡ ((b || c) || a)
    first true true c = refl
    first true false true = refl
    first true false false = refl
    first false true c = refl
    first false false true = refl
    first false false false = refl

    same : (a b : Bool) → (a || b) ≡ ((a || b) || a)
    same true b = refl
    same false true = refl
    same false false = refl

    last : (a b c : Bool) → (a || (b || c)) ≡ ((a || b) || c)
    last true b c = refl
    last false b c = refl

    go : (l e : Bool) → nat_eq p x ≡ e → is_at k (insert_key nat_cmp ks p) ≡ (is_at k ks || nat_eq p k)
        → is_at k (match_ordering (cond l Less (cond e Equal Greater)) (p ∷ x ∷ ks) (x ∷ ks)
        (x ∷ insert_key nat_cmp ks p))
        ≡ ((nat_eq x k || is_at k ks) || nat_eq p k)
    go true e h more = first (nat_eq p k) (nat_eq x k) (is_at k ks)
    go false true h more =
        same (nat_eq x k) (is_at k ks)
        ∙ ap (λ y. (nat_eq x k || is_at k ks) || nat_eq y k) (sym (eqb-true p x h))
    go false false h more =
        ap (λ b. nat_eq x k || b) more ∙ last (nat_eq x k) (is_at k ks) (nat_eq p k)

-- ---- lists that rise

abbrev pub Rises : List ℕ → Type 0
Rises [] = Unit {0}
Rises (x ∷ xs) = ((k : ℕ) → is_at k xs ≡ true → x < k) × Rises xs

is_at-self : (x : ℕ) (xs : List ℕ) → is_at x (x ∷ xs) ≡ true
is_at-self x xs = or_left_true (nat_eq x x) (is_at x xs) (eq-eqb x x refl)

rises-insert : (p : ℕ) (ks : List ℕ) → Rises ks → Rises (insert_key nat_cmp ks p)
rises-insert p [] h = (λ k t. absurd (true≢false (sym t)), tt)
rises-insert p (x ∷ ks) h = go (nat_lt p x) (nat_eq p x) refl refl (rises-insert p ks h.1)
  where
    go : (l e : Bool) → nat_lt p x ≡ l → nat_eq p x ≡ e → Rises (insert_key nat_cmp ks p)
        → Rises (match_ordering (cond l Less (cond e Equal Greater)) (p ∷ x ∷ ks) (x ∷ ks)
        (x ∷ insert_key nat_cmp ks p))
    go true e less same rest = (
      λ k t. elim (or_cases (nat_eq x k) (is_at k ks) t) [
        | inl first ↦ subst (λ y. p < y) (eqb-true x k first) (ltb-true p x less)
        | inr later ↦ let above = h.0 k later in let below = ltb-true p x less in omega (arith, above, below)
      ],
      h,
    )
    go false true less same rest = h
    go false false less same rest = (
      λ k t. elim (or_cases (is_at k ks) (nat_eq p k) (sym (is_at-insert k p ks) ∙ t)) [
        | inl later ↦ h.0 k later
        | inr added ↦ subst (λ y. x < y) (eqb-true p k added) (above less same)
      ],
      rest,
    )
      where
        above : nat_lt p x ≡ false → nat_eq p x ≡ false → x < p
        above less same = elim (cases_order p x) [
          | inl equal ↦ absurd (true≢false (sym (eq-eqb p x equal) ∙ same))
          | inr (inl before) ↦ absurd (true≢false (sym (lt-ltb p x before) ∙ less))
          | inr (inr after) ↦ after
        ]

rises-end : (p : ℕ) (ks : List ℕ) → Rises ks → ((k : ℕ) → is_at k ks ≡ true → k < p) → Rises (ks ++ p ∷ [])
rises-end p [] h below = (λ k t. absurd (true≢false (sym t)), tt)
rises-end p (x ∷ ks) h below = (
  λ k t. elim (is_at-end p k ks t) [
    | inl before ↦ h.0 k before
    | inr last ↦ subst (λ y. x < y) last (below x (is_at-self x ks))
  ],
  rises-end p ks h.1 (λ k t. below k (or_right_true (nat_eq x k) (is_at k ks) t)),
)

-- two that have the same places are equal
rises-same : (xs ys : List ℕ) → Rises xs → Rises ys → ((k : ℕ) → is_at k xs ≡ is_at k ys) → xs ≡ ys
rises-same [] [] h j same = refl
rises-same [] (y ∷ ys) h j same = absurd (true≢false (sym (same y ∙ is_at-self y ys)))
rises-same (x ∷ xs) [] h j same = absurd (true≢false (sym (is_at-self x xs) ∙ same x))
rises-same (x ∷ xs) (y ∷ ys) h j same = ap (λ z. z ∷ xs) first ∙ ap (λ zs. y ∷ zs) (rises-same xs ys h.1 j.1 tails)
  where
    first : x ≡ y
    first = elim (or_cases (nat_eq y x) (is_at x ys) (sym (same x) ∙ is_at-self x xs)) [
      | inl e ↦ sym (eqb-true y x e)
      | inr later ↦ elim (or_cases (nat_eq x y) (is_at y xs) (same y ∙ is_at-self y ys)) [
        | inl e ↦ eqb-true x y e
        | inr after ↦ let a = j.0 x later in let b = h.0 y after in absurd (omega (arith, a, b))
      ]
    ]

    none : (z : ℕ) (zs : List ℕ) → ((k : ℕ) → is_at k zs ≡ true → z < k) → (k : ℕ) → z ≡ k → is_at k zs ≡ false
    none z zs above k e = elim (cases_Bool (is_at k zs)) [
      | inl t ↦ let l = above k t in absurd (omega (arith, l, e))
      | inr f ↦ f
    ]

    tails : (k : ℕ) → is_at k xs ≡ is_at k ys
    tails k = elim (cases_eq x k) [
      | inl e ↦ none x xs h.0 k e ∙ sym (none y ys j.0 k (sym first ∙ e))
      | inr other ↦ sym (ap (λ b. b || is_at k xs) (not-equal x k other)) ∙ same k
          ∙ ap (λ b. b || is_at k ys) (not-equal y k (λ e. other (first ∙ e)))
    ]
      where
        not-equal : (a b : ℕ) → (a ≡ b → ⊥) → nat_eq a b ≡ false
        not-equal a b other = elim (cases_Bool (nat_eq a b)) [
          | inl t ↦ absurd (other (eqb-true a b t))
          | inr f ↦ f
        ]

-- ---- places in a heap

is_at-permutation : (k : ℕ) (xs ys : List ℕ) → IsPermutation xs ys → is_at k xs ≡ is_at k ys
is_at-permutation k xs ys h =
    sym (any-some (λ x. nat_eq x k) xs) ∙ list_any-IsPermutation (λ x. nat_eq x k) xs ys h
    ∙ any-some (λ x. nat_eq x k) ys

is_at-rising : (k : ℕ) (ks : List ℕ) → is_at k (rising ks) ≡ is_at k ks
unfolding rising
is_at-rising k [] = refl
is_at-rising k (p ∷ ks) =
    is_at-insert k p (rising ks) ∙ ap (λ b. b || nat_eq p k) (is_at-rising k ks) ∙ or_comm (is_at k ks) (nat_eq p k)

pub rises-rising : (ks : List ℕ) → Rises (rising ks)
unfolding rising
rises-rising [] = tt
rises-rising (p ∷ ks) = rises-insert p (rising ks) (rises-rising ks)

pub rising-none : rising [] ≡ []
unfolding rising
rising-none = refl

-- a place that is pushed
pub rising-push : (place : ℕ) (old new : List ℕ) → IsPermutation (place ∷ old) new
    → (k : ℕ) → is_at k (rising new) ≡ (is_at k (rising old) || nat_eq place k)
rising-push place old new h k =
    is_at-rising k new ∙ sym (is_at-permutation k (place ∷ old) new h) ∙ or_comm (nat_eq place k) (is_at k old)
    ∙ ap (λ b. b || nat_eq place k) (sym (is_at-rising k old))

at-from_all : (p : ℕ) (ks : List ℕ) → All (λ q. q ≤ p) ks → (k : ℕ) → is_at k ks ≡ true → k ≤ p
at-from_all p [] h k t = absurd (true≢false (sym t))
at-from_all p (x ∷ ks) h k t = elim (or_cases (nat_eq x k) (is_at k ks) t) [
  | inl e ↦ subst (λ y. y ≤ p) (eqb-true x k e) (h 0 x (omega arith))
  | inr r ↦ at-from_all p ks (λ i d l. h (suc i) d (omega (arith, l))) k r
]

-- what is left of a set from which the greatest place is taken, once or more often
pub record Left (all : List ℕ) (place : ℕ) (items : List ℕ) : Type 0 where
  pub heap : IsHeap nat_cmp items
  pub most : (k : ℕ) → is_at k items ≡ true → k ≤ place
  pub same : (k : ℕ) → is_at k all ≡ (nat_eq place k || is_at k items)

pub left-first : (old : List ℕ) (place : ℕ) (new : List ℕ) → IsHeap nat_cmp old → PopsGreatest nat_cmp old place new
    → IsPermutation old (place ∷ new) → Left (rising old) place new
left-first old place new heap pops moved = record {
  heap = (pops heap).0;
  most = λ k t. at-from_all place old (le_from_greatest place old (pops heap).1) k
      (is_at-permutation k old (place ∷ new) moved ∙ or_right_true (nat_eq place k) (is_at k new) t);
  same = λ k. is_at-rising k old ∙ is_at-permutation k old (place ∷ new) moved;
}

left-more : (all : List ℕ) (place : ℕ) (old new : List ℕ) (x : ℕ) → Left all place old → is_at place old ≡ true
    → PopsGreatest nat_cmp old x new → IsPermutation old (x ∷ new) → Left all place new
left-more all place old new x h here pops moved = record {
  heap = (pops h.heap).0;
  most = λ k t. h.most k (members k ∙ or_right_true (nat_eq x k) (is_at k new) t);
  same = λ k. h.same k
      ∙ ap (λ b. nat_eq place k || b) (members k ∙ ap (λ y. nat_eq y k || is_at k new) greatest)
      ∙ twice (nat_eq place k) (is_at k new);
}
  where
    members : (k : ℕ) → is_at k old ≡ is_at k (x ∷ new)
    members k = is_at-permutation k old (x ∷ new) moved

    greatest : x ≡ place
    greatest =
        let above = h.most x (members x ∙ is_at-self x new) in
        let below = at-from_all x old (le_from_greatest x old (pops h.heap).1) place here in omega (arith, above, below)

    twice : (a b : Bool) → (a || (a || b)) ≡ (a || b)
    twice true b = refl
    twice false b = refl

-- the same of what a `pop` says
pub left-popped : (all : List ℕ) (place : ℕ) (old new : List ℕ) (taken : Option ℕ) (n : ℕ) → Left all place old
    → is_at place old ≡ true → n ≡ length old → IfNone taken (n ≡ 0)
    → IfSome taken (λ x. PopsGreatest nat_cmp old x new) → IfSome taken (λ x. IsPermutation old (x ∷ new))
    → Left all place new
left-popped all place [] new taken n h here len none pops moved = absurd (true≢false (sym here))
left-popped all place (y ∷ ys) new None n h here len none pops moved = absurd (omega (arith, len, none))
left-popped all place (y ∷ ys) new (Some x) n h here len none pops moved =
    left-more all place (y ∷ ys) new x h here pops moved

pub fewer-popped : (place : ℕ) (old : List ℕ) (taken : Option ℕ) (n m : ℕ) → is_at place old ≡ true → n ≡ length old
    → IfNone taken (n ≡ 0) → OnSome taken (m + 1 ≡ n) → m < n
fewer-popped place [] taken n m here len none fewer = absurd (true≢false (sym here))
fewer-popped place (y ∷ ys) None n m here len none fewer = absurd (omega (arith, len, none))
fewer-popped place (y ∷ ys) (Some x) n m here len none fewer = omega (arith, fewer)

pub no_items : (items : List ℕ) (n : ℕ) → n ≡ length items → n ≡ 0 → items ≡ []
no_items [] n len none = refl
no_items (x ∷ xs) n len none = absurd (omega (arith, len, none))

-- what `peek` says of a place that is no less than any
pub top-none : (place n : ℕ) (items : List ℕ) (seen : Option (Bor ℕ)) → n ≡ length items → seen ≡ None
    → (IsSome seen ↔ (0 < n)) → false ≡ is_at place items
top-none place n [] seen len none some = refl
top-none place n (y ∷ ys) seen len none some =
    absurd (true≢false (sym (some.1 (omega (arith, len))) ∙ ap is_some none))

pub top-some : (place x : ℕ) (items : List ℕ) → ((k : ℕ) → is_at k items ≡ true → k ≤ place)
    → is_at x items ≡ true → IsUpperBound nat_cmp x items → nat_eq x place ≡ is_at place items
top-some place x items most here above = elim (cases_eq x place) [
  | inl e ↦ eq-eqb x place e ∙ sym (subst (λ k. is_at k items ≡ true) e here)
  | inr other ↦ other-eq other ∙ sym (elim (cases_Bool (is_at place items)) [
    | inl t ↦
        let least = at-from_all x items (le_from_greatest x items above) place t in
        let bound = most x here in absurd (other (omega (arith, least, bound)))
    | inr f ↦ f
  ])
]
  where
    other-eq : (x ≡ place → ⊥) → nat_eq x place ≡ false
    other-eq other = elim (cases_Bool (nat_eq x place)) [
      | inl t ↦ absurd (other (eqb-true x place t))
      | inr f ↦ f
    ]

pub first-at : (n : ℕ) (items : List ℕ) (seen : Option (Bor ℕ)) (r : Bor ℕ) → seen ≡ Some r → n ≡ length items
    → (IsSome seen ↔ (0 < n)) → r.now ≡ get_or items 0 r.now → is_at r.now items ≡ true
first-at n [] seen r is len some same =
    let less = some.0 (ap is_some is) in absurd (omega (arith, less, len))
first-at n (y ∷ ys) seen r is len some same = or_left_true (nat_eq y r.now) (is_at r.now ys) (eq-eqb y r.now (sym same))

-- no place is left twice
pub left-done : (all : List ℕ) (place : ℕ) (items : List ℕ) → Rises all → Left all place items
    → is_at place items ≡ false
    → (all ≡ rising items ++ place ∷ []) × ((k : ℕ) → is_at k (rising items) ≡ true → k < place)
left-done all place items rises h gone = (
  rises-same all (rising items ++ place ∷ []) rises (rises-end place (rising items) (rises-rising items) under)
      (λ k. h.same k ∙ ap (λ b. nat_eq place k || b) (sym (is_at-rising k items)) ∙ last (rising items) k),
  under,
)
  where
    under : (k : ℕ) → is_at k (rising items) ≡ true → k < place
    under k t =
        let here : is_at k items ≡ true = sym (is_at-rising k items) ∙ t in
        let most = h.most k here in
        elim (cases_eq k place) [
          | inl same ↦ absurd (true≢false (sym (subst (λ x. is_at x items ≡ true) same here) ∙ gone))
          | inr other ↦ omega (arith, most, other)
        ]

    last : (ks : List ℕ) (k : ℕ) → (nat_eq place k || is_at k ks) ≡ is_at k (ks ++ place ∷ [])
    last [] k = refl
    last (x ∷ ks) k = swap (nat_eq place k) (nat_eq x k) (is_at k ks) ∙ ap (λ b. nat_eq x k || b) (last ks k)
      where
        swap : (a b c : Bool) → (a || (b || c)) ≡ (b || (a || c))
        swap true true c = refl
        swap true false c = refl
        swap false b c = refl

-- one more entry has its place
pub places-more : (order places places' : List ℕ) (n : ℕ) → n < length order
    → ((j : ℕ) → get_or places' j 0 ≡ (if nat_eq (get_or order n 0) j then n else get_or places j 0))
    → ((k : ℕ) → k < n → StandAt order places (get_or order k 0))
    → (k : ℕ) → k < n + 1 → StandAt order places' (get_or order k 0)
places-more order places places' n less set h k l = go (nat_eq (get_or order n 0) (get_or order k 0)) refl
  where
    got : (b : Bool) → nat_eq (get_or order n 0) (get_or order k 0) ≡ b
        → get_or places' (get_or order k 0) 0 ≡ (if b then n else get_or places (get_or order k 0) 0)
    got b e = set (get_or order k 0) ∙ ap (λ c. if c then n else get_or places (get_or order k 0) 0) e

    before : (k ≡ n → ⊥) → k < n
    before other = elim (cases_lt k n) [
      | inl b ↦ b
      | inr b ↦ absurd (other (omega (arith, b, l)))
    ]

    go : (b : Bool) → nat_eq (get_or order n 0) (get_or order k 0) ≡ b → StandAt order places' (get_or order k 0)
    go true e = (
      subst (λ m. m < length order) (sym (got true e)) less,
      ap (λ m. get_or order m 0) (got true e) ∙ eqb-true (get_or order n 0) (get_or order k 0) e,
    )
    go false e =
        let old = h k (before (λ same. true≢false (sym (eq-eqb (get_or order n 0) (get_or order k 0)
        (ap (λ m. get_or order m 0) (sym same))) ∙ e))) in (
          subst (λ m. m < length order) (sym (got false e)) old.0,
          ap (λ m. get_or order m 0) (got false e) ∙ old.1,
        )
