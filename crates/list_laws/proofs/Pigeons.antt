-- The pigeonhole principle: a list without repeats that lies in a range is no longer than the range.
use Rattle.std.proofs.Common.{◌≡◌, ℕ, zero, suc, ◌+◌, ◌<◌, ◌≤◌, ◌⊎◌, inl, inr, ⊎_elim, Bool, true, false, cond, List, [], ◌∷◌, length, nat_eq, refl, ap, sym, ◌∙◌, subst, arith}
use Rattle.std.proofs.lemmas.Bool.{cases_eq, eqb-true, eqb-false}
use Rattle.list_laws.specs.In.{IsIn, Distinct}
use Rattle.std.specs.List.{range_with_len}

pub dec_in : (v : ℕ) (xs : List ℕ) → IsIn v xs ⊎ (IsIn v xs → ⊥)
dec_in v [] = inr (λ h. h)
dec_in v (x ∷ xs) =
    elim (cases_eq v x) [
      | inl e ↦ inl (inl e)
      | inr ne ↦ ⊎_elim (λ i. inl (inr i)) (λ out. inr (λ h. ⊎_elim ne out h)) (dec_in v xs)
    ]

abbrev pub without : ℕ → List ℕ → List ℕ
without v [] = []
without v (x ∷ xs) = cond (nat_eq x v) (without v xs) (x ∷ without v xs)

pub from_without : (y v : ℕ) (xs : List ℕ) → IsIn y (without v xs) → IsIn y xs × (y ≡ v → ⊥)
from_without y v [] h = absurd h
from_without y v (x ∷ xs) h = go (nat_eq x v) refl h (from_without y v xs) where
  go : (b : Bool) → nat_eq x v ≡ b → IsIn y (cond b (without v xs) (x ∷ without v xs))
      → (IsIn y (without v xs) → IsIn y xs × (y ≡ v → ⊥)) → IsIn y (x ∷ xs) × (y ≡ v → ⊥)
  go true e h more = (inr (more h).0, (more h).1)
  go false e (inl k) more = (inl k, λ q. eqb-false x v e (sym k ∙ q))
  go false e (inr h) more = (inr (more h).0, (more h).1)

pub in_without : (y v : ℕ) (xs : List ℕ) → IsIn y xs → (y ≡ v → ⊥) → IsIn y (without v xs)
in_without y v [] h ne = absurd h
in_without y v (x ∷ xs) h ne = go (nat_eq x v) refl h (λ i. in_without y v xs i ne) where
  go : (b : Bool) → nat_eq x v ≡ b → IsIn y (x ∷ xs) → (IsIn y xs → IsIn y (without v xs))
      → IsIn y (cond b (without v xs) (x ∷ without v xs))
  go true e (inl k) more = absurd (ne (k ∙ eqb-true x v e))
  go true e (inr i) more = more i
  go false e (inl k) more = inl k
  go false e (inr i) more = inr (more i)

pub Distinct-without : (v : ℕ) (xs : List ℕ) → Distinct xs → Distinct (without v xs)
Distinct-without v [] d = tt
Distinct-without v (x ∷ xs) d = go (nat_eq x v) (Distinct-without v xs d.1) where
  go : (b : Bool) → Distinct (without v xs) → Distinct (cond b (without v xs) (x ∷ without v xs))
  go true e = e
  go false e = ((λ i. d.0 (from_without x v xs i).0), e)

without_absent : (v : ℕ) (xs : List ℕ) → (IsIn v xs → ⊥) → length (without v xs) ≡ length xs
without_absent v [] out = refl
without_absent v (x ∷ xs) out = go (nat_eq x v) refl (without_absent v xs (λ i. out (inr i))) where
  go : (b : Bool) → nat_eq x v ≡ b → length (without v xs) ≡ length xs
      → length (cond b (without v xs) (x ∷ without v xs)) ≡ suc (length xs)
  go true e h = absurd (out (inl (sym (eqb-true x v e))))
  go false e h = ap suc h

without_le : (v : ℕ) (xs : List ℕ) → length (without v xs) ≤ length xs
without_le v [] = omega arith
without_le v (x ∷ xs) = go (nat_eq x v) (without_le v xs) where
  go : (b : Bool) → length (without v xs) ≤ length xs
      → length (cond b (without v xs) (x ∷ without v xs)) ≤ suc (length xs)
  go true h = omega (arith, h)
  go false h = omega (arith, h)

pub length-without : (v : ℕ) (xs : List ℕ) → IsIn v xs → suc (length (without v xs)) ≤ length xs
length-without v [] i = absurd i
length-without v (x ∷ xs) i = go (nat_eq x v) refl i (length-without v xs) where
  go : (b : Bool) → nat_eq x v ≡ b → IsIn v (x ∷ xs) → (IsIn v xs → suc (length (without v xs)) ≤ length xs)
      → suc (length (cond b (without v xs) (x ∷ without v xs))) ≤ suc (length xs)
  go true e i more = omega (arith, without_le v xs)
  go false e (inl k) more = absurd (eqb-false x v e (sym k))
  go false e (inr i) more = omega (arith, more i)

without_distinct : (v : ℕ) (xs : List ℕ) → Distinct xs → length xs ≤ suc (length (without v xs))
without_distinct v [] d = omega arith
without_distinct v (x ∷ xs) d = go (nat_eq x v) refl (without_distinct v xs d.1) where
  go : (b : Bool) → nat_eq x v ≡ b → length xs ≤ suc (length (without v xs))
      → suc (length xs) ≤ suc (length (cond b (without v xs) (x ∷ without v xs)))
  go true e h = omega (arith, without_absent v xs (λ i. d.0 (subst (λ z. IsIn z xs) (sym (eqb-true x v e)) i)))
  go false e h = omega (arith, h)

-- no more different numbers than places
pub pigeon : (low n : ℕ) (xs : List ℕ) → Distinct xs → ((y : ℕ) → IsIn y xs → (low ≤ y) × (y < low + n))
    → length xs ≤ n
pigeon low zero [] d h = omega arith
pigeon low zero (x ∷ xs) d h = absurd (omega (arith, h x (inl refl)))
pigeon low (suc n) xs d h =
    omega (
      arith,
      without_distinct (low + n) xs d,
      pigeon low n (without (low + n) xs) (Distinct-without (low + n) xs d)
          (λ y i. let (j, ne) = from_without y (low + n) xs i in let b = h y j in (b.0, omega (arith, b.1, ne))),
    )

-- with fewer numbers than places, a place is left
pub place_left : (low n : ℕ) (xs : List ℕ) → length xs < n → (y : ℕ) × (low ≤ y) × (y < low + n) × (IsIn y xs → ⊥)
place_left low zero xs l = absurd (omega arith)
place_left low (suc n) xs l =
    elim (dec_in (low + n) xs) [
      | inr out ↦ (low + n, omega arith, omega arith, out)
      | inl i ↦ let (y, a, b, out) =
          place_left low n (without (low + n) xs) (omega (arith, length-without (low + n) xs i)) in
          (y, a, omega arith, λ j. out (in_without y (low + n) xs j (λ e. let f : ⊥ = omega (arith, e, b) in f)))
    ]

-- the numbers of a range are different
pub Distinct-range : (a n : ℕ) → Distinct (range_with_len a n)
Distinct-range a zero = tt
Distinct-range a (suc n) = ((λ i. out (a + 1) n i (omega arith)), Distinct-range (a + 1) n) where
  out : (b n : ℕ) → IsIn a (range_with_len b n) → a < b → ⊥
  out b zero i l = i
  out b (suc n) (inl e) l = omega (arith, e, l)
  out b (suc n) (inr i) l = out (b + 1) n i (omega (arith, l))
