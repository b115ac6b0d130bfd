-- Steps are equal where their two numbers are.
use Rattle.std.proofs.Common.{◌≡◌, ℕ, true, nat_eq, refl, ap₂}
use Rattle.std.proofs.lemmas.Bool.{eqb-true, eq-eqb, and_parts}
use Rattle.js_pointers.specs.Numbered.{same_step}

abbrev pub pair : ℕ → ℕ → ℕ × ℕ
pair m n = (m, n)

-- steps that pass the test are equal
pub same_step-true : (a b : ℕ × ℕ) → same_step a b ≡ true → a ≡ b
same_step-true (m, n) (k, l) h =
    let parts = and_parts (nat_eq m k) (nat_eq n l) h in ap₂ pair (eqb-true m k parts.0) (eqb-true n l parts.1)

pub same_step-refl : (a : ℕ × ℕ) → same_step a a ≡ true
same_step-refl (m, n) = rw (eq-eqb m m refl, eq-eqb n n refl) refl
