-- How many members a set has.
use Rattle.std.proofs.Common.{◌≡◌, ℕ, zero, suc, ◌+◌, ◌-◌, ◌<◌, ◌≤◌, ◌⊎◌, inl, inr, min, Bool, true, false, ◌||◌, nat_le, List, [], ◌∷◌, refl, ap, sym, ◌∙◌, arith}
use Rattle.std.proofs.lemmas.Bool.{cases_Bool, cases_lt, cond-true, cond-false, leb-true, le-leb, and_parts, and_from, true≢false}
use Rattle.patterns.specs.CharSet.{is_within, has, are_ranges, count_below}
use Rattle.pattern_laws.specs.Laws.{width_of}
use Rattle.pattern_laws.proofs.Members.{Rises, rises-are_ranges, has-below}
use Rattle.pattern_laws.proofs.Gaps.{Ends, ends-are_ranges}

count_below-none : (f : ℕ → Bool) (n : ℕ) → ((c : ℕ) → f c ≡ false) → count_below f n ≡ 0
unfolding count_below
count_below-none f zero h = refl
count_below-none f (suc n) h = cond-false (f n) _ _ (h n) ∙ count_below-none f n h

-- numbers that pass one of two tests, where none passes both
count_below-either : (f g : ℕ → Bool) (n : ℕ) → ((c : ℕ) → f c ≡ true → g c ≡ false)
    → count_below (λ c. f c || g c) n ≡ count_below f n + count_below g n
unfolding count_below
count_below-either f g zero h = refl
count_below-either f g (suc n) h =
    elim (cases_Bool (f n)) [
      | inl e ↦ cond-true (f n || g n) _ _ (ap (λ b. b || g n) e) ∙ ap suc (count_below-either f g n h)
          ∙ (let x : count_below f (suc n) ≡ suc (count_below f n) = cond-true (f n) _ _ e in
          let y : count_below g (suc n) ≡ count_below g n = cond-false (g n) _ _ (h n e) in omega (arith, x, y))
      | inr e ↦ elim (cases_Bool (g n)) [
        | inl d ↦ cond-true (f n || g n) _ _ (ap (λ b. b || g n) e ∙ d) ∙ ap suc (count_below-either f g n h)
            ∙ (let x : count_below f (suc n) ≡ count_below f n = cond-false (f n) _ _ e in
            let y : count_below g (suc n) ≡ suc (count_below g n) =
            cond-true (g n) _ _ d in omega (arith, x, y))
        | inr d ↦ cond-false (f n || g n) _ _ (ap (λ b. b || g n) e ∙ d) ∙ count_below-either f g n h
            ∙ (let x : count_below f (suc n) ≡ count_below f n = cond-false (f n) _ _ e in
            let y : count_below g (suc n) ≡ count_below g n = cond-false (g n) _ _ d in omega (arith, x, y))
      ]
    ]

-- the numbers of a range that lie below n
count_below-within : (a b n : ℕ) → a ≤ b → count_below (is_within (a, b)) n ≡ min n (suc b) - a
unfolding count_below
count_below-within a b zero h = omega arith
count_below-within a b (suc n) h =
    let rest : count_below (is_within (a, b)) n ≡ min n (suc b) - a = count_below-within a b n h in
    elim (cases_Bool (is_within (a, b) n)) [
      | inl e ↦
          let (x, y) = and_parts (nat_le a n) (nat_le n b) e in
          let p : a ≤ n = leb-true a n x in
          let q : n ≤ b = leb-true n b y in
          let s : count_below (is_within (a, b)) (suc n) ≡ suc (count_below (is_within (a, b)) n) =
          cond-true (is_within (a, b) n) _ _ e in
          omega (arith, s, rest)
      | inr e ↦
          let out : (n < a) ⊎ (b < n) = outside a b n e in
          let s : count_below (is_within (a, b)) (suc n) ≡ count_below (is_within (a, b)) n =
          cond-false (is_within (a, b) n) _ _ e in
          elim out [ inl l ↦ omega (arith, s, rest) | inr l ↦ omega (arith, s, rest) ]
    ] where
      outside : (a b n : ℕ) → is_within (a, b) n ≡ false → (n < a) ⊎ (b < n)
      outside a b n e =
          elim (cases_lt n a) [
            | inl l ↦ inl l
            | inr l ↦ elim (cases_lt b n) [
              | inl k ↦ inr k
              | inr k ↦ absurd (true≢false (sym (and_from _ _ (le-leb a n l) (le-leb n b k)) ∙ e))
            ]
          ]

-- in a range, so in none of the later ones
later-none : (r : ℕ × ℕ) (rs : List (ℕ × ℕ)) → Rises (r.1 + 2) rs → (c : ℕ) → is_within r c ≡ true
    → has rs c ≡ false
later-none r rs h c e =
    let (a, b) = and_parts (nat_le r.0 c) (nat_le c r.1) e in
    let below : c ≤ r.1 = leb-true c r.1 b in has-below (r.1 + 2) rs c h (omega arith)

-- each range ends below n
abbrev EndsBelow : ℕ → List (ℕ × ℕ) → Type 0
EndsBelow n [] = Unit {0}
EndsBelow n (r ∷ rs) = (r.1 < n) × EndsBelow n rs

ends_below : (n : ℕ) (rs : List (ℕ × ℕ)) → n ≡ 0x110000 → Ends rs → EndsBelow n rs
ends_below n [] e h = tt
ends_below n (r ∷ rs) e h = (omega (arith, h.0), ends_below n rs e h.1)

width_of-counts : (n low : ℕ) (rs : List (ℕ × ℕ)) → Rises low rs → EndsBelow n rs
    → width_of rs ≡ count_below (has rs) n
width_of-counts n low [] h e = sym (count_below-none (has []) n (λ c. refl))
width_of-counts n low (r ∷ rs) h e =
    let both : count_below (has (r ∷ rs)) n ≡ count_below (is_within r) n + count_below (has rs) n =
    count_below-either (is_within r) (has rs) n (later-none r rs h.2) in
    let one : count_below (is_within r) n ≡ min n (suc r.1) - r.0 = count_below-within r.0 r.1 n h.1 in
    let rest : width_of rs ≡ count_below (has rs) n = width_of-counts n (r.1 + 2) rs h.2 e.1 in
    omega (arith, both, one, rest, e.0)

width_of-limit : (n : ℕ) (s : List (ℕ × ℕ)) → n ≡ 0x110000 → are_ranges 0 s ≡ true
    → width_of s ≡ count_below (has s) n
width_of-limit n s e h =
    width_of-counts n 0 s (rises-are_ranges 0 s h) (ends_below n s e (ends-are_ranges 0 s h))

-- the width of a set is the number of its members
pub width_of-count : (s : List (ℕ × ℕ)) → are_ranges 0 s ≡ true → width_of s ≡ count_below (has s) 0x110000
width_of-count s h = width_of-limit 0x110000 s refl h
