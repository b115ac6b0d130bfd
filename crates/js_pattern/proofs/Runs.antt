-- Runs of digits, read one digit on. A number that is cut after each digit is cut as one that is cut at the end.
use Rattle.std.proofs.Common.{◌≡◌, ℕ, suc, ◌+◌, ◌*◌, ◌<◌, ◌≤◌, inl, inr, min, List, [], ◌∷◌, length, get_or, drop, nat_lt, add-one, refl, ap, sym, ◌∙◌, arith}
use Rattle.std.proofs.lemmas.Bool.{cases_lt, cond-true, cond-false, lt-ltb, le-ltb}
use Rattle.std.proofs.lemmas.Nat.{mul-le}
use Rattle.std.proofs.Math.Nat.{mul_comm}
use Rattle.std.proofs.lemmas.List.{at_drop_all}
use Rattle.std.proofs.Math.Seq.{drop-cons}
use Rattle.std.specs.Char.{digit_value}
use Rattle.js_pattern.specs.Reading.{digits_from}
use Rattle.js_pattern.specs.View.{cut}

module _ (radix : ℕ) where
  digits_from-digit : (n c : ℕ) (t : List ℕ) → digit_value c < radix
      → digits_from radix n (c ∷ t)
      ≡ (
        (digits_from radix (radix * n + digit_value c) t).0,
        suc
            (digits_from radix (radix * n + digit_value c) t).1,
      )
  digits_from-digit n c t h = cond-true (nat_lt (digit_value c) radix) _ _ (lt-ltb (digit_value c) radix h)

  digits_from-other : (n c : ℕ) (t : List ℕ) → radix ≤ digit_value c → digits_from radix n (c ∷ t) ≡ (n, 0)
  digits_from-other n c t h = cond-false (nat_lt (digit_value c) radix) _ _ (le-ltb (digit_value c) radix h)

  -- how many digits there are has nothing to do with what was read before
  pub digits_from-count : (a b : ℕ) (t : List ℕ) → (digits_from radix a t).1 ≡ (digits_from radix b t).1
  digits_from-count a b [] = refl
  digits_from-count a b (c ∷ t) =
      elim (cases_lt (digit_value c) radix) [
        | inl l ↦ ap (λ p. p.1) (digits_from-digit a c t l)
            ∙ ap suc (digits_from-count (radix * a + digit_value c) (radix * b + digit_value c) t)
            ∙ sym (ap (λ p. p.1) (digits_from-digit b c t l))
        | inr l ↦ ap (λ p. p.1) (digits_from-other a c t l) ∙ sym (ap (λ p. p.1) (digits_from-other b c t l))
      ]

  cut-grows : (a b d : ℕ) → 1 ≤ radix → cut a ≡ cut b → cut (radix * a + d) ≡ cut (radix * b + d)
  cut-grows a b d r e =
      elim (cases_lt a 4294967296) [
        | inl l ↦ elim (cases_lt b 4294967296) [
          | inl k ↦ let same : a ≡ b = omega (arith, e) in ap (λ n. cut (radix * n + d)) same
          | inr k ↦ let low : a ≡ 4294967295 = omega (arith, e) in large a b low k
        ]
        | inr l ↦ elim (cases_lt b 4294967296) [
          | inl k ↦ let low : b ≡ 4294967295 = omega (arith, e) in sym (large b a low l)
          | inr k ↦ omega (arith, times a, times b)
        ]
      ] where
        times : (n : ℕ) → n ≤ radix * n
        times n = omega (arith, mul-le 1 n radix n r (omega arith))

        large : (a b : ℕ) → a ≡ 4294967295 → 4294967296 ≤ b → cut (radix * a + d) ≡ cut (radix * b + d)
        large a b e h = omega (arith, times a, times b)

  pub digits_from-cut : (a b : ℕ) (t : List ℕ) → 1 ≤ radix → cut a ≡ cut b
      → cut (digits_from radix a t).0 ≡ cut (digits_from radix b t).0
  digits_from-cut a b [] r e = e
  digits_from-cut a b (c ∷ t) r e =
      elim (cases_lt (digit_value c) radix) [
        | inl l ↦ ap (λ p. cut p.0) (digits_from-digit a c t l)
            ∙ digits_from-cut (radix * a + digit_value c) (radix * b + digit_value c) t r
            (cut-grows a b (digit_value c) r e)
            ∙ sym (ap (λ p. cut p.0) (digits_from-digit b c t l))
        | inr l ↦ ap (λ p. cut p.0) (digits_from-other a c t l) ∙ e
            ∙ sym (ap (λ p. cut p.0) (digits_from-other b c t l))
      ]

  -- the run at an index, where a digit is there and where none is
  pub run-digit : (n m i c d : ℕ) (t : List ℕ) → 1 ≤ radix → i < length t → c ≡ get_or t i c
      → digit_value c < radix → digit_value c ≡ d
      → m ≡ min (min (n * radix) 4294967295 + d) 4294967295
      → (cut (digits_from radix m (drop (i + 1) t)).0 ≡ cut (digits_from radix n (drop i t)).0)
      × (i + 1 + (digits_from radix m (drop (i + 1) t)).1 ≡ i + (digits_from radix n (drop i t)).1)
  run-digit n m i c d t r l e h k f =
      let here : digits_from radix n (drop i t) ≡ digits_from radix n (c ∷ drop (i + 1) t) =
      ap (digits_from radix n) (rw add-one (drop-cons t i c l) ∙ ap (λ x. x ∷ drop (i + 1) t) (sym e)) in
      let step = here ∙ digits_from-digit n c (drop (i + 1) t) h in
      let cuts : cut m ≡ cut (radix * n + digit_value c) = omega (arith, k, f, mul_comm n radix) in (
        digits_from-cut m (radix * n + digit_value c) (drop (i + 1) t) r cuts ∙ sym (ap (λ p. cut p.0) step),
        let same = digits_from-count m (radix * n + digit_value c) (drop (i + 1) t) in
            let other = ap (λ p. p.1) step in omega (arith, same, other),
      )

  pub run-other : (n i c : ℕ) (t : List ℕ) → i < length t → c ≡ get_or t i c → (digit_value c < radix → ⊥)
      → digits_from radix n (drop i t) ≡ (n, 0)
  run-other n i c t l e h =
      ap (digits_from radix n) (rw add-one (drop-cons t i c l) ∙ ap (λ x. x ∷ drop (i + 1) t) (sym e))
      ∙ digits_from-other n c (drop (i + 1) t) (omega (arith, h))

  pub run-end : (n i : ℕ) (t : List ℕ) → length t ≤ i → digits_from radix n (drop i t) ≡ (n, 0)
  run-end n i t l = at_drop_all (digits_from radix n) t i l
