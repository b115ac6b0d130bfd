-- Steps from places to places, one after another and side by side.
use Rattle.std.proofs.Common.{◌≡◌, ℕ, zero, suc, ◌+◌, ◌-◌, ◌<◌, ◌≤◌, ◌⊎◌, inl, inr, List, [], ◌∷◌, ◌++◌, length, flat_map, slice_index, Bool, true, false, if◌then◌else◌, ◌||◌, ◌&&◌, nat_eq, nat_le, nat_lt, Some, None, refl, sym, ap, subst, ◌∙◌, arith, true≢false}
use Rattle.std.proofs.lemmas.Bool.{and_parts, or_cases, eqb-true, eq-eqb, ltb-true, lt-ltb}
use Rattle.patterns.specs.CharSet.{has}
use Rattle.patterns.specs.Tree.{Tree, Trees, empty, one_of, at_start, at_end, in_turn, either, repeated, no_trees, tree}
use Rattle.patterns.specs.Match.{Repeats, Matches, MatchesInTurn, MatchesOne}
use Rattle.patterns.specs.Decision.{ends}
use Rattle.js_match.specs.Places.{is_at, IsAt, Leads, More, are_within}
use Rattle.std.proofs.Math.Bool.{or_assoc}

-- ---- lists of places

pub here_at : (i : ℕ) (xs : List ℕ) → IsAt i (i ∷ xs)
here_at i xs = ap (λ b. b || is_at i xs) (eq-eqb i i refl)

pub or_right_true : (a b : Bool) → b ≡ true → (a || b) ≡ true
or_right_true true b h = refl
or_right_true false b h = h

pub or_left_true : (a b : Bool) → a ≡ true → (a || b) ≡ true
or_left_true true b h = refl
or_left_true false b h = absurd (true≢false (sym h))

pub is_at-append : (j : ℕ) (xs ys : List ℕ) → is_at j (xs ++ ys) ≡ (is_at j xs || is_at j ys)
is_at-append j [] ys = refl
is_at-append j (x ∷ xs) ys =
    ap (λ b. nat_eq x j || b) (is_at-append j xs ys) ∙ sym (or_assoc (nat_eq x j) (is_at j xs) (is_at j ys))

pub within-at : (n j : ℕ) (xs : List ℕ) → are_within n xs ≡ true → IsAt j xs → j ≤ n
within-at n j [] w h = absurd (true≢false (sym h))
within-at n j (x ∷ xs) w h =
    let both = and_parts (nat_le x n) (are_within n xs) w in
    elim (or_cases (nat_eq x j) (is_at j xs) h) [
      | inl e ↦ let same = eqb-true x j e in let le = both.0 in grind (arith, same, le)
      | inr l ↦ within-at n j xs both.1 l
    ]

pub within-from : (n : ℕ) (xs : List ℕ) → ((j : ℕ) → IsAt j xs → j ≤ n) → are_within n xs ≡ true
within-from n [] h = refl
within-from n (x ∷ xs) h =
    let le : nat_le x n ≡ true = (let l = h x (here_at x xs) in grind (arith, l)) in
    let rest = within-from n xs (λ j a. h j (or_right_true (nat_eq x j) (is_at j xs) a)) in
    ap (λ b. b && are_within n xs) le ∙ rest

-- ---- steps

pub leads_same : (Step : ℕ → ℕ → Type 0) (starts ends others : List ℕ) → ((j : ℕ) → is_at j others ≡ is_at j ends)
    → Leads Step starts ends → Leads Step starts others
leads_same Step starts ends others e l = record {
  sound = λ j h. l.sound j (sym (e j) ∙ h);
  complete = λ i j h s. e j ∙ l.complete i j h s;
}

pub leads_then : (S T : ℕ → ℕ → Type 0) (xs ys zs : List ℕ) → Leads S xs ys → Leads T ys zs
    → Leads (λ i j. (h : ℕ) × S i h × T h j) xs zs
leads_then S T xs ys zs a b = record {
  sound = λ j k. (let (h, p, t) = b.sound j k in let (i, q, s) = a.sound h p in (i, q, (h, s, t)));
  complete = λ i j k m. b.complete m.0 j (a.complete i m.0 k m.1) m.2;
}

pub leads_nowhere_else : (xs : List ℕ) → Leads (λ i j. i ≡ j) xs xs
leads_nowhere_else xs = record {
  sound = λ j h. (j, h, refl);
  complete = λ i j h e. subst (λ k. IsAt k xs) e h;
}

pub leads_either : (S T : ℕ → ℕ → Type 0) (xs ys zs : List ℕ) → Leads S xs ys → Leads T xs zs
    → Leads (λ i j. S i j ⊎ T i j) xs (ys ++ zs)
leads_either S T xs ys zs a b = record {
  sound = λ j h. elim (or_cases (is_at j ys) (is_at j zs) (sym (is_at-append j ys zs) ∙ h)) [
    | inl l ↦ let (i, k, s) = a.sound j l in (i, k, inl s)
    | inr r ↦ let (i, k, t) = b.sound j r in (i, k, inr t)
  ];
  complete = λ i j h m. is_at-append j ys zs ∙ elim m [
    | inl s ↦ or_left_true (is_at j ys) (is_at j zs) (a.complete i j h s)
    | inr t ↦ or_right_true (is_at j ys) (is_at j zs) (b.complete i j h t)
  ];
}

pub leads_within : (Step : ℕ → ℕ → Type 0) (n : ℕ) (xs ys : List ℕ) → ((i j : ℕ) → i ≤ n → Step i j → j ≤ n)
    → Leads Step xs ys → are_within n xs ≡ true → are_within n ys ≡ true
leads_within Step n xs ys keeps l w =
    within-from n ys (λ j h. let (i, k, s) = l.sound j h in keeps i j (within-at n i xs w k) s)

-- ---- steps that are repeated

recount : (Step : ℕ → ℕ → Type 0) (m n i j : ℕ) → m ≡ n → Repeats Step m i j → Repeats Step n i j
recount Step m n i j e r = subst (λ z. Repeats Step z i j) e r

pack : (Step : ℕ → ℕ → Type 0) (m i x j : ℕ) → Step i x → Repeats Step m x j → Repeats Step (suc m) i j
pack Step m i x j s r = (x, s, r)

pub repeats_join : (Step : ℕ → ℕ → Type 0) (n k i h j : ℕ) → Repeats Step n i h → Repeats Step k h j
    → Repeats Step (n + k) i j
repeats_join Step zero k i h j a b =
    let e : k ≡ 0 + k = omega arith in recount Step k (0 + k) i j e (subst (λ z. Repeats Step k z j) (sym a) b)
repeats_join Step (suc n) k i h j a b =
    let rest = repeats_join Step n k a.0 h j a.2 b in
    let e : suc (n + k) ≡ suc n + k = omega arith in
    recount Step (suc (n + k)) (suc n + k) i j e (pack Step (n + k) i a.0 j a.1 rest)

pub repeats_split : (Step : ℕ → ℕ → Type 0) (n k i j : ℕ) → Repeats Step (n + k) i j
    → (h : ℕ) × Repeats Step n i h × Repeats Step k h j
repeats_split Step zero k i j r =
    let e : 0 + k ≡ k = omega arith in (i, refl, recount Step (0 + k) k i j e r)
repeats_split Step (suc n) k i j r =
    let e : suc n + k ≡ suc (n + k) = omega arith in
    let s = recount Step (suc n + k) (suc (n + k)) i j e r in
    let (h, a, b) = repeats_split Step n k s.0 j s.2 in
    (h, pack Step n i s.0 h s.1 a, b)

once : (Step : ℕ → ℕ → Type 0) (i j : ℕ) → Step i j → Repeats Step 1 i j
once Step i j s = (j, s, refl)

pub repeats_last : (Step : ℕ → ℕ → Type 0) (n i h j : ℕ) → Repeats Step n i h → Step h j → Repeats Step (suc n) i j
repeats_last Step n i h j r s =
    let e : n + 1 ≡ suc n = omega arith in
    recount Step (n + 1) (suc n) i j e (repeats_join Step n 1 i h j r (once Step h j s))

pub repeats_before : (Step : ℕ → ℕ → Type 0) (n i j : ℕ) → Repeats Step (suc n) i j
    → (h : ℕ) × Repeats Step n i h × Step h j
repeats_before Step n i j r =
    let e : suc n ≡ n + 1 = omega arith in
    let (h, a, b) = repeats_split Step n 1 i j (recount Step (suc n) (n + 1) i j e r) in
    (h, a, subst (λ z. Step h z) b.2 b.1)

pub repeats_within : (Step : ℕ → ℕ → Type 0) (n : ℕ) → ((i j : ℕ) → i ≤ n → Step i j → j ≤ n)
    → (k i j : ℕ) → i ≤ n → Repeats Step k i j → j ≤ n
repeats_within Step n keeps zero i j l r = subst (λ z. z ≤ n) r l
repeats_within Step n keeps (suc k) i j l r = repeats_within Step n keeps k r.0 j (keeps i r.0 l r.1) r.2

-- a set that a step leads to itself stays as it is
pub leads_still : (Step : ℕ → ℕ → Type 0) (xs : List ℕ) → Leads Step xs xs → (k : ℕ) → Leads (Repeats Step k) xs xs
leads_still Step xs l zero = leads_nowhere_else xs
leads_still Step xs l (suc k) = leads_then Step (Repeats Step k) xs xs xs l (leads_still Step xs l k)

-- ---- matches end in the word

abbrev mutual
  pub match_within : (t : Tree) (w : List ℕ) (i j : ℕ) → i ≤ length w → Matches t w i j → j ≤ length w
  match_within empty w i j l m = subst (λ z. z ≤ length w) m l
  match_within (one_of s) w i j l m = let e = m.0 in let less = m.1 in omega (arith, e, less)
  match_within at_start w i j l m = let e = m.1 in omega (arith, e)
  match_within at_end w i j l m = let e = m.1 in omega (arith, e)
  match_within (in_turn ts) w i j l m = in_turn_within ts w i j l m
  match_within (either ts) w i j l m = one_within ts w i j l m
  match_within (repeated t low high) w i j l m =
      repeats_within (Matches t w) (length w) (match_within t w) m.0 i j l m.3

  pub in_turn_within : (ts : Trees) (w : List ℕ) (i j : ℕ) → i ≤ length w → MatchesInTurn ts w i j → j ≤ length w
  in_turn_within no_trees w i j l m = subst (λ z. z ≤ length w) m l
  in_turn_within (tree t ts) w i j l m = in_turn_within ts w m.0 j (match_within t w i m.0 l m.1) m.2

  pub one_within : (ts : Trees) (w : List ℕ) (i j : ℕ) → i ≤ length w → MatchesOne ts w i j → j ≤ length w
  one_within no_trees w i j l m = absurd m
  one_within (tree t ts) w i j l (inl a) = match_within t w i j l a
  one_within (tree t ts) w i j l (inr b) = one_within ts w i j l b

-- ---- single nodes

pub leads_listed : (Step : ℕ → ℕ → Type 0) (f : ℕ → List ℕ) → ((i : ℕ) → Leads Step (i ∷ []) (f i)) → (xs : List ℕ)
    → Leads Step xs (flat_map f xs)
leads_listed Step f h [] = record {
  sound = λ j a. absurd (true≢false (sym a));
  complete = λ i j a s. absurd
      (true≢false (sym a));
}
leads_listed Step f h (x ∷ xs) =
    let rest = leads_listed Step f h xs in
    record {
      sound = λ j a. elim (or_cases (is_at j (f x)) (is_at j (flat_map f xs)) (sym (is_at-append j (f x)
          (flat_map f xs)) ∙ a)) [
            | inl l ↦ let (i, k, s) = (h x).sound j l in (i, or_left (nat_eq x i) (is_at i xs) k, s)
            | inr r ↦ let (i, k, s) = rest.sound j r in (i, or_right_true (nat_eq x i) (is_at i xs) k, s)
          ];
      complete = λ i j a s. is_at-append j (f x) (flat_map f xs) ∙ elim (or_cases (nat_eq x i) (is_at i xs) a) [
        | inl e ↦ or_left_true (is_at j (f x)) (is_at j (flat_map f xs))
            ((h x).complete i j (or_left_true (nat_eq x i) false e) s)
        | inr r ↦ or_right_true (is_at j (f x)) (is_at j (flat_map f xs)) (rest.complete i j r s)
      ];
    }
  where
    or_left : (a b : Bool) → (a || false) ≡ true → (a || b) ≡ true
    or_left true b h = refl
    or_left false b h = absurd (true≢false (sym h))

same_place : (i j : ℕ) → IsAt j (i ∷ []) → i ≡ j
same_place i j h = elim (or_cases (nat_eq i j) false h) [
  | inl e ↦ eqb-true i j e
  | inr f ↦ absurd (true≢false (sym f))
]

one_leads : (s : List (ℕ × ℕ)) (w : List ℕ) (i : ℕ) (b : Bool) → (nat_lt i (length w) && has s (slice_index w i)) ≡ b
    → Leads (Matches (one_of s) w) (i ∷ []) (if b then suc i ∷ [] else [])
one_leads s w i true h =
    let both = and_parts (nat_lt i (length w)) (has s (slice_index w i)) h in
    record {
      sound = λ j a. (i, here_at i [], (sym (same_place (suc i) j a), ltb-true i (length w) both.0, both.1));
      complete = λ k j a m. subst (λ z. IsAt z (suc i ∷ [])) (sym (m.0 ∙ ap suc (sym (same_place i k a)))) (here_at
          (suc i) []);
    }
one_leads s w i false h = record {
  sound = λ j a. absurd (true≢false (sym a));
  complete = λ k j a m.
      let e = same_place i k a in
      let lt : nat_lt i (length w) ≡ true = lt-ltb i (length w) (subst (λ z. z < length w) (sym e) m.1) in
      let hs : has s (slice_index w i) ≡ true = subst (λ z. has s (slice_index w z) ≡ true) (sym e) m.2 in
      absurd (true≢false (sym (ap (λ b. b && has s (slice_index w i)) lt ∙ hs) ∙ h));
}

pub leads_one_of : (s : List (ℕ × ℕ)) (w xs ys : List ℕ) → ys ≡ flat_map (ends (one_of s) w) xs
    → Leads (Matches (one_of s) w) xs ys
leads_one_of s w xs ys e =
    subst (λ zs. Leads (Matches (one_of s) w) xs zs) (sym e)
    (leads_listed (Matches (one_of s) w) (ends (one_of s) w) (λ i. one_leads s w i _ refl) xs)

place_leads : (p : ℕ) (xs : List ℕ) (b : Bool) → is_at p xs ≡ b
    → Leads (λ i j. (i ≡ p) × (j ≡ p)) xs (if b then p ∷ [] else [])
place_leads p xs true h = record {
  sound = λ j a. (p, h, (refl, sym (same_place p j a)));
  complete = λ i j a m. subst (λ z. IsAt z (p ∷ [])) (sym m.1) (here_at p []);
}
place_leads p xs false h = record {
  sound = λ j a. absurd (true≢false (sym a));
  complete = λ i j a m. absurd (true≢false (sym (subst (λ z. IsAt z xs) m.0 a) ∙ h));
}

-- ---- repeats

pub leads_repeated : (t : Tree) (w : List ℕ) (low : ℕ) (xs ys zs : List ℕ) → Leads (Repeats (Matches t w) low) xs ys
    → Leads (More (Matches t w) None) ys zs → Leads (Matches (repeated t low None) w) xs zs
leads_repeated t w low xs ys zs a b = record {
  sound = λ j h.
      let (p, k, m) = b.sound j h in
      let (i, q, r) = a.sound p k in
      (i, q, (low + m.0, omega arith, m.1, repeats_join (Matches t w) low m.0 i p j r m.2));
  complete = λ i j h m.
      let count : m.0 ≡ low + (m.0 - low) = (let le = m.1 in omega (arith, le)) in
      let (p, c, d) = repeats_split (Matches t w) low (m.0 - low) i j (subst (λ z. Repeats
      (Matches t w) z i j) count m.3) in
      b.complete p j (a.complete i p h c) (m.0 - low, m.2, d);
}

pub leads_up_to : (t : Tree) (w : List ℕ) (low high : ℕ) (xs ys zs : List ℕ) → low ≤ high
    → Leads (Repeats (Matches t w) low) xs ys → Leads (More (Matches t w) (Some (high - low))) ys zs
    → Leads (Matches (repeated t low (Some high)) w) xs zs
leads_up_to t w low high xs ys zs le a b = record {
  sound = λ j h.
      let (p, k, m) = b.sound j h in
      let (i, q, r) = a.sound p k in (
        i,
        q,
        (
          low + m.0,
          omega arith,
          (let most = m.1 in omega (arith, most, le)),
          repeats_join (Matches t w) low m.0 i p j r m.2,
        ),
      );
  complete = λ i j h m.
      let count : m.0 ≡ low + (m.0 - low) = (let l = m.1 in omega (arith, l)) in
      let (p, c, d) = repeats_split (Matches t w) low (m.0 - low) i j (subst (λ z. Repeats
      (Matches t w) z i j) count m.3) in
      b.complete p j (a.complete i p h c) (m.0 - low, (let most = m.2 in let l = m.1 in omega (arith, most, l)), d);
}
