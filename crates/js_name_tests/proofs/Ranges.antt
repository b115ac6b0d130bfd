-- What passes a test among the numbers below one, and one more.
use Rattle.std.proofs.Common.{◌≡◌, ℕ, zero, suc, ◌+◌, ◌++◌, Bool, true, false, cond, [], ◌∷◌, filter, ap, arith}
use Rattle.std.specs.List.{range_with_len}

range_more : (p : ℕ → Bool) (a n j : ℕ) → a + n ≡ j
    → filter p (range_with_len a (suc n)) ≡ filter p (range_with_len a n) ++ cond (p j) (j ∷ []) []
range_more p a zero j e = (let h : a ≡ j = omega (arith, e) in ap (λ z. cond (p z) (z ∷ []) []) h)
range_more p a (suc n) j e = go (p a) (range_more p (a + 1) n j (omega (arith, e))) where
  go : (b : Bool)
      → filter p (range_with_len (a + 1) (suc n))
      ≡ filter p (range_with_len (a + 1) n) ++ cond (p j) (j ∷ []) []
      → cond b (a ∷ filter p (range_with_len (a + 1) (suc n))) (filter p (range_with_len (a + 1) (suc n)))
      ≡ cond b (a ∷ filter p (range_with_len (a + 1) n)) (filter p (range_with_len (a + 1) n)) ++ cond (p j) (j ∷ []) []
  go true more = ap (λ z. a ∷ z) more
  go false more = more
