-- A sum over letters whose terms depend on the class of the letter alone is a sum over classes, each times its number
-- of letters. So what is required of labels is computed class by class.
use Rattle.std.proofs.Common.{◌≡◌, ℕ, zero, suc, ◌+◌, ◌*◌, ◌≤◌, ◌<◌, inl, inr, List, [], ◌∷◌, Bool, true, false, cond, nat_eq, refl, ap, sym, ◌∙◌, arith}
use Rattle.std.proofs.lemmas.Bool.{eqb-true, eqb-false}
use Rattle.list_laws.proofs.Counts.{sum_over}
use Rattle.list_laws.specs.In.{IsIn}

-- f 0 + .. + f (n - 1)
abbrev pub sum_to : ℕ → (ℕ → ℕ) → ℕ
sum_to zero f = 0
sum_to (suc n) f = f n + sum_to n f

-- the number of letters in the class
abbrev pub width : (ℕ → ℕ) → List ℕ → ℕ → ℕ
width class letters k = sum_over (λ c. cond (nat_eq (class c) k) 1 0) letters

sum_none : (n x : ℕ) (g f : ℕ → ℕ) → n ≤ x
    → sum_to n (λ k. (cond (nat_eq x k) 1 0 + g k) * f k) ≡ sum_to n (λ k. g k * f k)
sum_none zero x g f l = refl
sum_none (suc n) x g f l = go (nat_eq x n) refl (sum_none n x g f (omega (arith, l))) where
  go : (b : Bool) → nat_eq x n ≡ b → sum_to n (λ k. (cond (nat_eq x k) 1 0 + g k) * f k) ≡ sum_to n (λ k. g k * f k)
      → (cond b 1 0 + g n) * f n + sum_to n (λ k. (cond (nat_eq x k) 1 0 + g k) * f k) ≡ g n * f n + sum_to n
      (λ k. g k * f k)
  go true e h = absurd (omega (arith, eqb-true x n e, l))
  go false e h = grind (arith, h)

sum_one : (n x : ℕ) (g f : ℕ → ℕ) → x < n
    → sum_to n (λ k. (cond (nat_eq x k) 1 0 + g k) * f k) ≡ f x + sum_to n (λ k. g k * f k)
sum_one zero x g f l = absurd (omega (arith, l))
sum_one (suc n) x g f l = go (nat_eq x n) refl (sum_one n x g f) where
  go : (b : Bool) → nat_eq x n ≡ b
      → (x < n → sum_to n (λ k. (cond (nat_eq x k) 1 0 + g k) * f k) ≡ f x + sum_to n (λ k. g k * f k))
      → (cond b 1 0 + g n) * f n + sum_to n (λ k. (cond (nat_eq x k) 1 0 + g k) * f k) ≡ f
      x + (g n * f n + sum_to n (λ k. g k * f k))
  go true e more =
      let q : f x ≡ f n = ap f (eqb-true x n e) in
      let h = sum_none n x g f (omega (arith, eqb-true x n e)) in
      grind (arith, q, h)
  go false e more =
      let h = more (omega (arith, l, eqb-false x n e)) in
      grind (arith, h)

-- a sum over letters of a value of their class is a sum over classes by width
pub by_class : (n : ℕ) (class f : ℕ → ℕ) (cs : List ℕ) → ((c : ℕ) → IsIn c cs → class c < n)
    → sum_over (λ c. f (class c)) cs ≡ sum_to n (λ k. width class cs k * f k)
by_class zero class f [] h = refl
by_class (suc n) class f [] h = grind (arith, by_class n class f [] (λ c i. absurd i))
by_class n class f (c ∷ cs) h =
    ap (λ z. f (class c) + z) (by_class n class f cs (λ d i. h d (inr i)))
    ∙ sym (sum_one n (class c) (width class cs) f (h c (inl refl)))
