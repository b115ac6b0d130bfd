-- Sums over a list: of nothing, of two functions, of functions that agree, and up to a bound. A sum is known up to a
-- bound where its terms are, so numbers that are cut can be added.
use Rattle.std.proofs.Common.{◌≡◌, ℕ, ◌+◌, ◌≤◌, min, inl, inr, List, [], ◌∷◌, refl, ap₂, arith}
use Rattle.list_laws.proofs.Counts.{sum_over}
use Rattle.list_laws.specs.In.{IsIn}

pub sum_none : {A : Type 0} (cs : List A) → sum_over (λ c. 0) cs ≡ 0
sum_none [] = refl
sum_none (c ∷ cs) = let e = sum_none cs in omega (arith, e)

pub sum_plus : {A : Type 0} (f g : A → ℕ) (cs : List A) → sum_over (λ c. f c + g c) cs ≡ sum_over f cs + sum_over g cs
sum_plus f g [] = refl
sum_plus f g (c ∷ cs) = let e = sum_plus f g cs in omega (arith, e)

pub sum_same : {A : Type 0} (f g : A → ℕ) (cs : List A) → ((c : A) → IsIn c cs → f c ≡ g c)
    → sum_over f cs ≡ sum_over g cs
sum_same f g [] h = refl
sum_same f g (c ∷ cs) h = ap₂ (λ a b. a + b) (h c (inl refl)) (sum_same f g cs (λ d i. h d (inr i)))

min_plus : (b x y u v : ℕ) → min b x ≡ min b u → min b y ≡ min b v → min b (x + y) ≡ min b (u + v)
min_plus b x y u v p q = grind (arith, p, q)

-- a sum is known up to the bound of its parts up to the bound
pub sum_cut : {A : Type 0} (b : ℕ) (f g : A → ℕ) (cs : List A) → ((c : A) → IsIn c cs → min b (f c) ≡ min b (g c))
    → min b (sum_over f cs) ≡ min b (sum_over g cs)
sum_cut b f g [] h = refl
sum_cut b f g (c ∷ cs) h =
    min_plus b (f c) (sum_over f cs) (g c) (sum_over g cs) (h c (inl refl)) (sum_cut b f g cs (λ d i. h d (inr i)))

pub plus_cut : (b a x u : ℕ) → min b x ≡ min b u → min b (a + x) ≡ min b (a + u)
plus_cut b a x u q = min_plus b a x a u refl q

pub sum_part : {A : Type 0} (f : A → ℕ) (c : A) (cs : List A) → IsIn c cs → f c ≤ sum_over f cs
sum_part f c [] i = absurd i
sum_part f c (d ∷ cs) (inl e) = rw e (omega arith)
sum_part f c (d ∷ cs) (inr i) = omega (arith, sum_part f c cs i)
