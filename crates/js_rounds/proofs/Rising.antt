-- A list that rises is the list of all numbers that pass a test.
use Rattle.std.proofs.Common.{◌≡◌, ℕ, zero, suc, ◌+◌, ◌≤◌, ◌<◌, ◌⊎◌, inl, inr, List, [], ◌∷◌, filter, length, get_or, Bool, true, false, cond, refl, ap, ap₂, sym, ◌∙◌, subst, arith}
use Rattle.std.specs.List.{range_with_len}
use Rattle.std.specs.List.Sorted.{IsNonDecreasing}
use Rattle.list_laws.specs.In.{IsIn, Distinct}
use Rattle.list_laws.proofs.Lists.{in_filter}
use Rattle.list_laws.proofs.Tests.{from_filter, in_range, from_range}

abbrev Rises : List ℕ → Type 0
Rises [] = Unit {0}
Rises (x ∷ xs) = ((y : ℕ) → IsIn y xs → x < y) × Rises xs

-- lists that rise and have the same numbers are the same
same_numbers : (xs ys : List ℕ) → Rises xs → Rises ys → ((z : ℕ) → IsIn z xs → IsIn z ys)
    → ((z : ℕ) → IsIn z ys → IsIn z xs) → xs ≡ ys
same_numbers [] [] r s f g = refl
same_numbers [] (y ∷ ys) r s f g = absurd (g y (inl refl))
same_numbers (x ∷ xs) [] r s f g = absurd (f x (inl refl))
same_numbers (x ∷ xs) (y ∷ ys) r s f g =
    ap₂ (λ z zs. z ∷ zs) first
    (same_numbers xs ys r.1 s.1 (λ z i. left z i (f z (inr i))) (λ z i. right z i (g z (inr i))))
  where
    first : x ≡ y
    first = go (f x (inl refl)) (g y (inl refl)) where
      go : (x ≡ y) ⊎ IsIn x ys → (y ≡ x) ⊎ IsIn y xs → x ≡ y
      go (inl e) o = e
      go (inr i) (inl e) = sym e
      go (inr i) (inr j) = let l = s.0 x i in let m = r.0 y j in absurd (omega (arith, l, m))

    left : (z : ℕ) → IsIn z xs → (z ≡ y) ⊎ IsIn z ys → IsIn z ys
    left z i (inl e) = let l = r.0 z i in absurd (omega (arith, l, e, first))
    left z i (inr j) = j

    right : (z : ℕ) → IsIn z ys → (z ≡ x) ⊎ IsIn z xs → IsIn z xs
    right z i (inl e) = let l = s.0 z i in absurd (omega (arith, l, e, first))
    right z i (inr j) = j

range_high : (a n x : ℕ) → IsIn x (range_with_len a n) → a ≤ x
range_high a zero x i = absurd i
range_high a (suc n) x (inl e) = omega (arith, e)
range_high a (suc n) x (inr i) = let l = range_high (a + 1) n x i in omega (arith, l)

range_rises : (p : ℕ → Bool) (a n : ℕ) → Rises (filter p (range_with_len a n))
range_rises p a zero = tt
range_rises p a (suc n) = go (p a) (range_rises p (a + 1) n) where
  above : (y : ℕ) → IsIn y (filter p (range_with_len (a + 1) n)) → a < y
  above y i =
      let (j, t) = from_filter p y (range_with_len (a + 1) n) i in
      let l = range_high (a + 1) n y j in
      omega (arith, l)

  go : (b : Bool) → Rises (filter p (range_with_len (a + 1) n))
      → Rises (cond b (a ∷ filter p (range_with_len (a + 1) n)) (filter p (range_with_len (a + 1) n)))
  go true r = (above, r)
  go false r = r

-- where a number is
place_of : (y : ℕ) (xs : List ℕ) → IsIn y xs → (j : ℕ) × (j < length xs) × (get_or xs j 0 ≡ y)
place_of y [] i = absurd i
place_of y (x ∷ xs) (inl e) = (0, omega arith, sym e)
place_of y (x ∷ xs) (inr i) = let (j, l, e) = place_of y xs i in (suc j, omega (arith, l), e)

sorted_rises : (xs : List ℕ) → IsNonDecreasing xs → Distinct xs → Rises xs
sorted_rises [] h d = tt
sorted_rises (x ∷ xs) h d = (
  above,
  sorted_rises xs (λ i j e l m. h (suc i) (suc j) e (omega (arith, l))
      (omega (arith, m))) d.1,
)
  where
    above : (y : ℕ) → IsIn y xs → x < y
    above y i = go (place_of y xs i) where
      apart : x ≡ y → ⊥
      apart e = d.0 (subst (λ z. IsIn z xs) (sym e) i)

      less : x ≤ y → (x ≡ y → ⊥) → x < y
      less l ne = omega (arith, l, ne)

      go : (j : ℕ) × (j < length xs) × (get_or xs j 0 ≡ y) → x < y
      go (j, l, e) = let m = h 0 (suc j) 0 (omega arith) (omega (arith, l)) in less (omega (arith, m, e)) apart

-- a rising list without repeats that has just the numbers below n that pass is the list of them
pub sorted_is : (n : ℕ) (p : ℕ → Bool) (xs : List ℕ) → IsNonDecreasing xs → Distinct xs
    → ((g : ℕ) → IsIn g xs → (p g ≡ true) × (g < n)) → ((g : ℕ) → p g ≡ true → g < n → IsIn g xs)
    → xs ≡ filter p (range_with_len 0 n)
sorted_is n p xs h d f g =
    same_numbers xs (filter p (range_with_len 0 n)) (sorted_rises xs h d) (range_rises p 0 n)
    (λ z i. let (t, l) = f z i in in_filter p z (range_with_len 0 n) (in_range n z l) t)
    (λ z i. let (j, t) = from_filter p z (range_with_len 0 n) i in g z t (from_range n z j))
