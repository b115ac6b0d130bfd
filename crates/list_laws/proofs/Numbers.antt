-- Sums, lesser numbers and tests of numbers that std has no lemma for.
use Rattle.std.proofs.Common.{◌≡◌, ℕ, zero, suc, ◌+◌, ◌-◌, ◌<◌, min, ◌⊎◌, inl, inr, true, false, nat_eq, ap, sym, ◌∙◌, refl, arith}
use Rattle.std.proofs.lemmas.Bool.{cases_eq, eq-eqb, ne_eqb}

pub suc_add-add_suc : (m n : ℕ) → suc m + n ≡ m + suc n
suc_add-add_suc m n = omega arith

pub suc-sub_one : (n : ℕ) → suc n - 1 ≡ n
suc-sub_one n = omega arith

pub min-right : (m n : ℕ) → n < m → min m n ≡ n
min-right m n l = omega (arith, l)

pub min_twice : (m n : ℕ) → min m (min m n) ≡ min m n
min_twice m n = grind arith

-- of two numbers one is less, or they are the same
pub three_ways : (m n : ℕ) → (m < n) ⊎ ((m ≡ n) ⊎ (n < m))
three_ways m n = grind arith

pub below_suc : (m n : ℕ) → m < suc n → (m < n) ⊎ (m ≡ n)
below_suc m n l = grind (arith, l)

pub nat_eq-refl : (n : ℕ) → nat_eq n n ≡ true
nat_eq-refl n = eq-eqb n n refl

pub nat_eq_comm : (m n : ℕ) → nat_eq m n ≡ nat_eq n m
nat_eq_comm m n = grind arith

pub nat_eq-suc : (m n : ℕ) → nat_eq m n ≡ nat_eq (suc m) (suc n)
nat_eq-suc m n =
    elim (cases_eq m n) [
      | inl e ↦ eq-eqb m n e ∙ sym (eq-eqb (suc m) (suc n) (ap suc e))
      | inr h ↦ ne_eqb m n h ∙ sym (ne_eqb (suc m) (suc n) (λ e. h (omega (arith, e))))
    ]

pub lt-nat_eq : (m n : ℕ) → m < n → nat_eq m n ≡ false
lt-nat_eq m n l = ne_eqb m n (λ e. omega (arith, e, l))
