-- The sets of classes, made of their pieces.
use Rattle.std.proofs.Common.{◌≡◌, ℕ, zero, suc, ◌+◌, ◌-◌, ◌<◌, ◌≤◌, ◌⊎◌, inl, inr, Bool, true, false, ◌&&◌, ◌||◌, nat_eq, nat_le, nat_lt, List, [], ◌∷◌, ◌++◌, length, take, drop, get_or, refl, sym, ◌∙◌, ap, ap₂, subst, arith, length-append}
use Rattle.std.specs.List.{Contains}
use Rattle.std.proofs.lemmas.Bool.Decides.{nat_tests}
use Rattle.std.proofs.lemmas.Bool.{cases_lt, cases_Bool, lt-ltb}
use Rattle.std.proofs.lemmas.List.{get_or_default, length-drop, take_all, take-append-drop, get_or_append_left}
use Rattle.std.proofs.Math.Seq.{get_or-append_seam}
use Rattle.patterns.specs.CharSet.{has, is_within, is_scalar, is_range}
use Rattle.js_automaton.specs.Pieces.{AreTogether, AreRising, ArePlaces, AreNumbered, IsInPiece, HavePieces, AreRanges}
use Rattle.std.proofs.Math.Bool.{or-false, or_assoc}
use Rattle.word_laws.proofs.Classes.{scalar_below}

-- ---- pieces
-- a place is not inside of a piece
place_or : (starts : List ℕ) (x k : ℕ) → AreRising starts → Contains starts x → k + 1 < length starts
    → (x ≤ get_or starts k 0) ⊎ (get_or starts (k + 1) 0 ≤ x)
place_or starts x k up (p, l, e) within =
    let at : get_or starts p 0 ≡ x = get_or_default starts p 0 x l ∙ e in elim (cases_lt k p) [
      | inl less ↦ elim (cases_lt (k + 1) p) [
        | inl far ↦ let u = up (k + 1) p far l in inr (omega (arith, u, at))
        | inr near ↦
            let q : k + 1 ≡ p = omega (arith, less, near) in
            let u : get_or starts (k + 1) 0 ≡ x = ap (λ n. get_or starts n 0) q ∙ at in inr (omega (arith, u))
      ]
      | inr more ↦ elim (cases_lt p k) [
        | inl far ↦ let u = up p k far (omega (arith, within)) in inl (omega (arith, u, at))
        | inr near ↦
            let q : k ≡ p = omega (arith, more, near) in
            let u : get_or starts k 0 ≡ x = ap (λ n. get_or starts n 0) q ∙ at in inl (omega (arith, u))
      ]
    ]

-- a piece and its start lie together
le_both : (x a b d : ℕ) → a ≤ d → d < b → (x ≤ a) ⊎ (b ≤ x) → nat_le x a ≡ nat_le x d
le_both x a b d h k (inl e) = grind (arith, nat_tests)
le_both x a b d h k (inr e) = grind (arith, nat_tests)

pub piece-together : (starts : List ℕ) (k d : ℕ) → AreRising starts → IsInPiece starts k d → d < 0x110000
    → AreTogether starts (get_or starts k 0) d
piece-together starts k d up (w, low, high) top = (
  omega (arith, low, top),
  top,
  λ x m. le_both x (get_or starts k 0) (get_or starts (k + 1) 0) d low high (place_or starts x k up m w),
)

-- each character lies in a piece
search : (starts : List ℕ) (d n i : ℕ) → get_or starts i 0 ≤ d → d < get_or starts (i + n) 0 → i + n < length starts
    → (k : ℕ) × IsInPiece starts k d
search starts d zero i low high within =
    let q : i + 0 ≡ i = omega arith in
    let h : d < get_or starts i 0 = subst (λ m. d < get_or starts m 0) q high in absurd (omega (arith, low, h))
search starts d (suc n) i low high within = elim (cases_lt d (get_or starts (i + 1) 0)) [
  | inl less ↦ (i, (omega (arith, within), low, less))
  | inr more ↦
      let q : i + suc n ≡ (i + 1) + n = omega arith in
      search starts d n (i + 1) more (subst (λ m. d < get_or starts m 0) q high) (omega (arith, within))
]

pub piece-of : (test : ℕ → ℕ → Bool) (starts : List ℕ) (d : ℕ) → AreRising starts → ArePlaces starts test
    → d < 0x110000 → (k : ℕ) × IsInPiece starts k d
piece-of test starts d up p top = go p.first p.end where
  go : Contains starts 0 → Contains starts 0x110000 → (k : ℕ) × IsInPiece starts k d
  go (i, l, e) (j, m, f) =
      let a : get_or starts i 0 ≡ 0 = get_or_default starts i 0 0 l ∙ e in
      let b : get_or starts j 0 ≡ 0x110000 = get_or_default starts j 0 0x110000 m ∙ f in elim (cases_lt i j) [
        | inl less ↦
            let q : j ≡ i + (j - i) = omega (arith, less) in
            search starts d (j - i) i (omega (arith, a)) (subst (λ n. d < get_or starts n 0) q (omega (arith, b, top)))
            (omega (arith, q, m))
        | inr more ↦ elim (cases_lt j i) [
          | inl far ↦ let u = up j i far l in absurd (omega (arith, u, a, b))
          | inr near ↦
              let q : i ≡ j = omega (arith, more, near) in
              let r : get_or starts i 0 ≡ get_or starts j 0 = ap (λ n. get_or starts n 0) q in
              absurd (omega (arith, r, a, b))
        ]
      ]

-- the piece of a character, as it is counted
pub piece-counted : (test : ℕ → ℕ → Bool) (starts : List ℕ) (d n : ℕ) → ArePlaces starts test → d < 0x110000
    → ((i : ℕ) → i < n → get_or starts i 0 < d + 1)
    → ((i : ℕ) → n ≤ i → i < length starts → d + 1 ≤ get_or starts i 0) → (0 < n) × IsInPiece starts (n - 1) d
piece-counted test starts d n p top before after = go p.first p.end where
  go : Contains starts 0 → Contains starts 0x110000 → (0 < n) × IsInPiece starts (n - 1) d
  go (i, l, e) (j, m, f) =
      let a : get_or starts i 0 ≡ 0 = get_or_default starts i 0 0 l ∙ e in
      let b : get_or starts j 0 ≡ 0x110000 = get_or_default starts j 0 0x110000 m ∙ f in
      let some : i < n = elim (cases_lt i n) [
        | inl less ↦ less
        | inr more ↦ let u = after i more l in absurd (omega (arith, u, a))
      ] in
      let fewer : n < length starts = elim (cases_lt j n) [
        | inl less ↦ let u = before j less in absurd (omega (arith, u, b, top))
        | inr more ↦ omega (arith, more, m)
      ] in
      let low = before (n - 1) (omega (arith, some)) in
      let high = after n (omega arith) fewer in
      let q : (n - 1) + 1 ≡ n = omega (arith, some) in (
        omega (arith, some),
        (omega (arith, q, fewer), omega (arith, low), subst (λ k. d < get_or starts k 0) (sym q) (omega (arith, high))),
      )

-- ---- surrogates
scalar_same : (a b d : ℕ) → a ≤ d → d < b → (0xd800 ≤ a) ⊎ (b ≤ 0xd800) → (0xe000 ≤ a) ⊎ (b ≤ 0xe000)
    → (0x110000 ≤ a) ⊎ (b ≤ 0x110000) → is_scalar d ≡ is_scalar a
scalar_same a b d h k (inl e) (inl f) (inl g) = grind (arith, nat_tests)
scalar_same a b d h k (inl e) (inl f) (inr g) = grind (arith, nat_tests)
scalar_same a b d h k (inl e) (inr f) (inl g) = grind (arith, nat_tests)
scalar_same a b d h k (inl e) (inr f) (inr g) = grind (arith, nat_tests)
scalar_same a b d h k (inr e) (inl f) (inl g) = grind (arith, nat_tests)
scalar_same a b d h k (inr e) (inl f) (inr g) = grind (arith, nat_tests)
scalar_same a b d h k (inr e) (inr f) (inl g) = grind (arith, nat_tests)
scalar_same a b d h k (inr e) (inr f) (inr g) = grind (arith, nat_tests)

range_is : (a b : ℕ) → a < b → (0xd800 ≤ a) ⊎ (b ≤ 0xd800) → (0x110000 ≤ a) ⊎ (b ≤ 0x110000)
    → is_scalar a ≡ true → is_range (a, b - 1) ≡ true
range_is a b k (inl e) (inl g) s = grind (arith, nat_tests)
range_is a b k (inl e) (inr g) s = grind (arith, nat_tests)
range_is a b k (inr e) (inl g) s = grind (arith, nat_tests)
range_is a b k (inr e) (inr g) s = grind (arith, nat_tests)

range_scalar : (r : ℕ × ℕ) (d : ℕ) → is_range r ≡ true → is_within r d ≡ true → is_scalar d ≡ true
range_scalar r d e f = grind (arith, nat_tests)

-- a character's piece is not the last
pub has_next : (test : ℕ → ℕ → Bool) (starts : List ℕ) (i : ℕ) → AreRising starts → ArePlaces starts test
    → i < length starts → is_scalar (get_or starts i 0) ≡ true → i + 1 < length starts
has_next test starts i up p within s = go p.end where
  go : Contains starts 0x110000 → i + 1 < length starts
  go (j, m, f) =
      let b : get_or starts j 0 ≡ 0x110000 = get_or_default starts j 0 0x110000 m ∙ f in
      let top = scalar_below (get_or starts i 0) s in elim (cases_lt i j) [
        | inl less ↦ omega (arith, less, m)
        | inr more ↦ elim (cases_lt j i) [
          | inl far ↦ let u = up j i far within in absurd (omega (arith, u, b, top))
          | inr near ↦
              let q : i ≡ j = omega (arith, more, near) in
              let r : get_or starts i 0 ≡ get_or starts j 0 = ap (λ n. get_or starts n 0) q in
              absurd (omega (arith, r, b, top))
        ]
      ]

-- ---- ranges
has_push : (rs : List (ℕ × ℕ)) (r : ℕ × ℕ) (d : ℕ) → has (rs ++ r ∷ []) d ≡ (has rs d || is_within r d)
has_push [] r d = or-false (is_within r d)
has_push (x ∷ rs) r d =
    ap (λ b. is_within x d || b) (has_push rs r d) ∙ sym (or_assoc (is_within x d) (has rs d) (is_within r d))

ranges_push : (rs : List (ℕ × ℕ)) (r : ℕ × ℕ) → AreRanges rs → is_range r ≡ true → AreRanges (rs ++ r ∷ [])
ranges_push rs r all is i l = elim (cases_lt i (length rs)) [
  | inl less ↦ ap is_range (get_or_append_left rs (r ∷ []) (0, 0) i less) ∙ all i less
  | inr more ↦
      let q : i ≡ length rs = omega (arith, more, l, length-append rs (r ∷ [])) in
      ap (λ n. is_range (get_or (rs ++ r ∷ []) n (0, 0))) q ∙ ap is_range (get_or-append_seam rs r [] (0, 0)) ∙ is
]

-- the pieces before i
abbrev pub HaveFirst : List ℕ → List ℕ → ℕ → List (ℕ × ℕ) → ℕ → Type 0
HaveFirst starts numbers here rs i =
    (k d : ℕ) → IsInPiece starts k d
    → has rs d ≡ (nat_lt k i && (is_scalar d && nat_eq (get_or numbers k 0) here))

module _ (test : ℕ → ℕ → Bool) (starts numbers : List ℕ) (n : AreNumbered test starts numbers) (here : ℕ)
    (rs : List (ℕ × ℕ)) (i : ℕ) (within : i < length numbers) (all : AreRanges rs)
    (first : HaveFirst starts numbers here rs i) where
  scalar_in : (k d : ℕ) → IsInPiece starts k d → is_scalar d ≡ is_scalar (get_or starts k 0)
  scalar_in k d (w, low, high) =
      scalar_same (get_or starts k 0) (get_or starts (k + 1) 0) d low high
      (place_or starts 0xd800 k n.rising n.places.low w)
      (place_or starts 0xe000 k n.rising n.places.high w)
      (place_or starts 0x110000 k n.rising n.places.end w)

  pub skipped : (nat_eq (get_or numbers i 0) here ≡ false) ⊎ (is_scalar (get_or starts i 0) ≡ false)
      → HaveFirst starts numbers here rs (i + 1)
  skipped lacks k d in_piece = elim (cases_lt k i) [
    | inl less ↦
        first k d in_piece
        ∙ ap (λ b. b && (is_scalar d && nat_eq (get_or numbers k 0) here)) (lt_both k i less)
    | inr more ↦ elim (cases_lt i k) [
      | inl far ↦
          first k d in_piece
          ∙ ap (λ b. b && (is_scalar d && nat_eq (get_or numbers k 0) here)) (lt_none k i far)
      | inr near ↦
          let q : k ≡ i = omega (arith, more, near) in
          first k d in_piece ∙ ap (λ b. b && (is_scalar d && nat_eq (get_or numbers k 0) here)) (lt_same k i q)
          ∙ none (nat_lt k (i + 1)) (is_scalar d) (nat_eq (get_or numbers k 0) here) (was q)
    ]
  ] where
    lt_both : (k i : ℕ) → k < i → nat_lt k i ≡ nat_lt k (i + 1)
    lt_both k i l = grind (arith, nat_tests)

    lt_none : (k i : ℕ) → i < k → nat_lt k i ≡ nat_lt k (i + 1)
    lt_none k i l = grind (arith, nat_tests)

    lt_same : (k i : ℕ) → k ≡ i → nat_lt k i ≡ false
    lt_same k i e = grind (arith, nat_tests)

    was : k ≡ i → (nat_eq (get_or numbers k 0) here ≡ false) ⊎ (is_scalar d ≡ false)
    was q = elim lacks [
      | inl e ↦ inl (ap (λ m. nat_eq (get_or numbers m 0) here) q ∙ e)
      | inr e ↦ inr (scalar_in k d in_piece ∙ ap (λ m. is_scalar (get_or starts m 0)) q ∙ e)
    ]

    none : (l s e : Bool) → (e ≡ false) ⊎ (s ≡ false) → false ≡ (l && (s && e))
    none false s e h = refl
    none true false e h = refl
    none true true false h = refl
    none true true true (inl h) = sym h
    none true true true (inr h) = sym h

  up_le : (j k : ℕ) → j ≤ k → k < length starts → get_or starts j 0 ≤ get_or starts k 0
  up_le j k h l = elim (cases_lt j k) [
    | inl less ↦ let u = n.rising j k less l in omega (arith, u)
    | inr more ↦
        let q : j ≡ k = omega (arith, more, h) in
        let e : get_or starts j 0 ≡ get_or starts k 0 = ap (λ m. get_or starts m 0) q in omega (arith, e)
  ]

  pub pushed : i + 1 < length starts → is_scalar (get_or starts i 0) ≡ true → nat_eq (get_or numbers i 0) here ≡ true
      → (more : List (ℕ × ℕ)) → more ≡ rs ++ (get_or starts i 0, get_or starts (i + 1) 0 - 1) ∷ []
      → AreRanges more × HaveFirst starts numbers here more (i + 1)
  pushed next s e more is = (
    subst (λ xs. AreRanges xs) (sym is) (ranges_push rs (a, b - 1) all range),
    λ k d in_piece.
        ap (λ xs. has xs d) is ∙ has_push rs (a, b - 1) d
        ∙ ap₂ (λ x y. x || y) (first k d in_piece) refl
        ∙ by k d in_piece (cases_lt k i) (cases_lt i k),
  ) where
    a : ℕ
    a = get_or starts i 0

    b : ℕ
    b = get_or starts (i + 1) 0

    less : a < b
    less = n.rising i (i + 1) (omega arith) next

    range : is_range (a, b - 1) ≡ true
    range =
        range_is a b less (place_or starts 0xd800 i n.rising n.places.low next)
        (place_or starts 0x110000 i n.rising n.places.end next) s

    before : (a b d : ℕ) (k i : ℕ) (x : Bool) → d < a → k < i
        → ((nat_lt k i && x) || is_within (a, b - 1) d) ≡ (nat_lt k (i + 1) && x)
    before a b d k i x l m =
        ap₂ (λ p q. (p && x) || q) (lt-ltb k i m) (out a b d l) ∙ or-false x
        ∙ sym (ap (λ p. p && x) (lt_more k i m)) where
          lt_more : (k i : ℕ) → k < i → nat_lt k (i + 1) ≡ true
          lt_more k i m = grind (arith, nat_tests)

          out : (a b d : ℕ) → d < a → is_within (a, b - 1) d ≡ false
          out a b d l = grind (arith, nat_tests)

    after : (a b d : ℕ) (k i : ℕ) (x : Bool) → a < b → b ≤ d → i < k
        → ((nat_lt k i && x) || is_within (a, b - 1) d) ≡ (nat_lt k (i + 1) && x)
    after a b d k i x o l m =
        ap₂ (λ p q. (p && x) || q) (lt k i m) (out a b d o l)
        ∙ sym (ap (λ p. p && x) (lt_more k i m)) where
          lt : (k i : ℕ) → i < k → nat_lt k i ≡ false
          lt k i m = grind (arith, nat_tests)

          lt_more : (k i : ℕ) → i < k → nat_lt k (i + 1) ≡ false
          lt_more k i m = grind (arith, nat_tests)

          out : (a b d : ℕ) → a < b → b ≤ d → is_within (a, b - 1) d ≡ false
          out a b d o l = grind (arith, nat_tests)

    within_it : (a b d : ℕ) (k i : ℕ) (x : Bool) → a ≤ d → d < b → k ≡ i → x ≡ true
        → ((nat_lt k i && x) || is_within (a, b - 1) d) ≡ (nat_lt k (i + 1) && x)
    within_it a b d k i x o l m t =
        ap₂ (λ p q. (p && x) || q) (lt k i m) (inside a b d o l) ∙ sym (ap₂ (λ p q. p && q) (lt_more k i m) t) where
          lt : (k i : ℕ) → k ≡ i → nat_lt k i ≡ false
          lt k i m = grind (arith, nat_tests)

          lt_more : (k i : ℕ) → k ≡ i → nat_lt k (i + 1) ≡ true
          lt_more k i m = grind (arith, nat_tests)

          inside : (a b d : ℕ) → a ≤ d → d < b → is_within (a, b - 1) d ≡ true
          inside a b d o l = grind (arith, nat_tests)

    by : (k d : ℕ) → IsInPiece starts k d → (k < i) ⊎ (i ≤ k) → (i < k) ⊎ (k ≤ i)
        → ((nat_lt k i && (is_scalar d && nat_eq (get_or numbers k 0) here)) || is_within (a, b - 1) d)
        ≡ (nat_lt k (i + 1) && (is_scalar d && nat_eq (get_or numbers k 0) here))
    by k d (w, low, high) (inl m) q =
        let u = up_le (k + 1) i (omega (arith, m)) (omega (arith, next)) in
        before a b d k i (is_scalar d && nat_eq (get_or numbers k 0) here) (omega (arith, u, high)) m
    by k d (w, low, high) (inr m) (inl o) =
        let u = up_le (i + 1) k (omega (arith, o)) (omega (arith, w)) in
        after a b d k i (is_scalar d && nat_eq (get_or numbers k 0) here) less (omega (arith, u, low)) o
    by k d (w, low, high) (inr m) (inr o) =
        let q : k ≡ i = omega (arith, m, o) in
        within_it a b d k i (is_scalar d && nat_eq (get_or numbers k 0) here)
        (subst (λ j. get_or starts j 0 ≤ d) q low) (subst (λ j. d < get_or starts (j + 1) 0) q high) q
        (ap₂ (λ x y. x && y) (scalar_in k d (w, low, high) ∙ ap (λ j. is_scalar (get_or starts j 0)) q ∙ s)
        (ap (λ j. nat_eq (get_or numbers j 0) here) q ∙ e))

pub has_halves : (k : ℕ) (rs : List (ℕ × ℕ)) (c : ℕ)
    → (has (take k rs) c || has (take (length rs - k) (drop k rs)) c) ≡ has rs c
has_halves k rs c =
    ap (λ ys. has (take k rs) c || has ys c) (take_all (length rs - k) (drop k rs) (within k rs))
    ∙ sym (has_append (take k rs) (drop k rs) c) ∙ ap (λ ys. has ys c) (take-append-drop k rs) where
      within : {X : Type 0} (k : ℕ) (xs : List X) → length (drop k xs) ≤ length xs - k
      within k xs = omega (arith, length-drop k xs)

      has_append : (a b : List (ℕ × ℕ)) (c : ℕ) → has (a ++ b) c ≡ (has a c || has b c)
      has_append [] b c = refl
      has_append (x ∷ a) b c =
          ap (λ t. is_within x c || t) (has_append a b c) ∙ sym (or_assoc (is_within x c) (has a c) (has b c))

pub next-above : (test : ℕ → ℕ → Bool) (starts : List ℕ) (i : ℕ) → AreRising starts → ArePlaces starts test
    → i < length starts → is_scalar (get_or starts i 0) ≡ true → 1 ≤ get_or starts (i + 1) 0
next-above test starts i up p within s =
    let u = up i (i + 1) (omega arith) (has_next test starts i up p within s) in omega (arith, u)

pub other_test : (a b : ℕ) → (a ≡ b → ⊥) → nat_eq a b ≡ false
other_test a b e = grind (arith, nat_tests)

-- ---- a whole class
pub first-none : (starts numbers : List ℕ) (here : ℕ) → HaveFirst starts numbers here [] 0
first-none starts numbers here k d p =
    ap (λ b. b && (is_scalar d && nat_eq (get_or numbers k 0) here)) (none k) where
      none : (k : ℕ) → false ≡ nat_lt k 0
      none k = grind (arith, nat_tests)

pub first-all : (starts numbers : List ℕ) (here : ℕ) (rs : List (ℕ × ℕ)) (i : ℕ) → HaveFirst starts numbers here rs i
    → length starts ≤ i → HavePieces starts numbers here rs
first-all starts numbers here rs i first past k d (w, low, high) =
    first k d (w, low, high)
    ∙ ap (λ b. b && (is_scalar d && nat_eq (get_or numbers k 0) here)) (lt-ltb k i (omega (arith, w, past)))

scalar_has : (rs : List (ℕ × ℕ)) (d : ℕ) → AreRanges rs → has rs d ≡ true → is_scalar d ≡ true
scalar_has [] d all e = absurd (cc e)
scalar_has (r ∷ rs) d all e = elim (cases_Bool (is_within r d)) [
  | inl t ↦ range_scalar r d (all 0 (omega arith)) t
  | inr f ↦ scalar_has rs d (λ i l. all (suc i) (omega (arith, l))) (ap (λ b. b || has rs d) (sym f) ∙ e)
]

pub class-all : (test : ℕ → ℕ → Bool) (starts numbers : List ℕ) (rs set : List (ℕ × ℕ)) (c h : ℕ)
    → AreNumbered test starts numbers → AreRanges rs → c < 0x110000 → IsInPiece starts h c
    → HavePieces starts numbers (get_or numbers h 0) rs → ((d : ℕ) → has set d ≡ has rs d)
    → (d : ℕ) → has set d ≡ (is_scalar d && test c d)
class-all test starts numbers rs set c h n all top in_h pieces is d = elim (cases_Bool (is_scalar d)) [
  | inl t ↦
      let (k, in_k) = piece-of test starts d n.rising n.places (scalar_below d t) in
      is d ∙ pieces k d in_k ∙ ap (λ b. is_scalar d && b) (alike k in_k (scalar_below d t))
  | inr f ↦ is d ∙ outside (has rs d) (is_scalar d) (test c d) f (scalar_has rs d all)
] where
  outside : (a s t : Bool) → s ≡ false → (a ≡ true → s ≡ true) → a ≡ (s && t)
  outside true s t e f = let q = f refl in absurd (cc (e, q))
  outside false true t e f = absurd (cc e)
  outside false false t e f = refl

  alike : (k : ℕ) → IsInPiece starts k d → d < 0x110000 → nat_eq (get_or numbers k 0) (get_or numbers h 0) ≡ test c d
  alike k in_k low =
      let a = get_or starts k 0 in
      let b = get_or starts h 0 in
      n.numbers.1 k h (let w = in_k.0 in omega (arith, w)) (let w = in_h.0 in omega (arith, w))
      ∙ n.laws.congr a d b (n.places.like a d (piece-together starts k d n.rising in_k low))
      ∙ n.laws.symm d b
      ∙ n.laws.congr b c d (n.places.like b c (piece-together starts h c n.rising in_h top))
