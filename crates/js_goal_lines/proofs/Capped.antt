-- Cells of which a bound is stated.
use Rattle.std.proofs.Common.{◌≡◌, ℕ, zero, suc, ◌+◌, ◌<◌, ◌≤◌, List, [], ◌∷◌, filter, length, get_or, nat_lt, Bool, true, false, cond, refl, ap, ◌∙◌, arith}
use Rattle.std.specs.List.{range_with_len}
use Rattle.std.proofs.lemmas.Bool.{and_parts, and_from, ltb-true, lt-ltb}
use Rattle.documents.specs.Tests.{every}

module _ (n : ℕ) where
  abbrev are_below : List ℕ → Bool
  are_below xs = every (λ c. nat_lt c n) xs

  filter-below : (p : ℕ → Bool) (xs : List ℕ) → are_below xs ≡ true → are_below (filter p xs) ≡ true
  filter-below p [] h = refl
  filter-below p (x ∷ xs) h =
      let (a, b) = and_parts (nat_lt x n) (are_below xs) h in
      go (p x) a (filter-below p xs b) where
        go : (b : Bool) → nat_lt x n ≡ true → are_below (filter p xs) ≡ true
            → are_below (cond b (x ∷ filter p xs) (filter p xs)) ≡ true
        go true a h = and_from (nat_lt x n) (are_below (filter p xs)) a h
        go false a h = h

  range-below : (a k : ℕ) → a + k ≤ n → are_below (range_with_len a k) ≡ true
  range-below a zero l = refl
  range-below a (suc k) l =
      and_from (nat_lt a n) _ (lt-ltb a n (omega (arith, l))) (range-below (a + 1) k (omega (arith, l)))

  below-at : (xs : List ℕ) → are_below xs ≡ true → (i : ℕ) → i < length xs → get_or xs i 0 < n
  below-at [] h i l = absurd (omega (arith, l))
  below-at (x ∷ xs) h zero l = ltb-true x n (and_parts (nat_lt x n) (are_below xs) h).0
  below-at (x ∷ xs) h (suc i) l = below-at xs (and_parts (nat_lt x n) (are_below xs) h).1 i (omega (arith, l))

  -- of some of the first n numbers each is below n
  pub some-below : (p q : ℕ → Bool) (xs : List ℕ) → xs ≡ filter p (filter q (range_with_len 0 n)) → (i : ℕ)
      → i < length xs → get_or xs i 0 < n
  some-below p q xs e =
      below-at xs
      (ap are_below e ∙ filter-below p _ (filter-below q _ (range-below 0 n (omega arith))))
