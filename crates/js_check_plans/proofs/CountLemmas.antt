-- How many members are in each cell, as members come and go.
use Rattle.std.proofs.Common.{◌≡◌, ℕ, suc, ◌+◌, ◌-◌, ◌<◌, ◌≤◌, List, [], ◌∷◌, ◌++◌, take, drop, length, get_or, Bool, true, false, cond, nat_eq, refl, arith, ap, sym, ◌∙◌, ⊎_elim}
use Rattle.std.proofs.lemmas.Bool.{cases_eq, ne_eqb, eq-eqb}
use Rattle.std.proofs.lemmas.List.{take-append-drop, drop_more, drop_all}
use Rattle.frames.specs.Fillers.{times}

times-append : (c : ℕ) (xs ys : List ℕ) → times c (xs ++ ys) ≡ times c xs + times c ys
times-append c [] ys = omega arith
times-append c (x ∷ xs) ys =
    ap (λ n. cond (nat_eq x c) (suc n) n) (times-append c xs ys) ∙ go (nat_eq x c) (times c xs) (times c ys) where
      go : (b : Bool) (m n : ℕ) → cond b (suc (m + n)) (m + n) ≡ cond b (suc m) m + n
      go true m n = omega arith
      go false m n = refl

times-same : (c x : ℕ) (xs : List ℕ) → c ≡ x → times c (x ∷ xs) ≡ suc (times c xs)
times-same c x xs e = ap (λ b. cond b (suc (times c xs)) (times c xs)) (eq-eqb x c (sym e))

times-other : (c x : ℕ) (xs : List ℕ) → (c ≡ x → ⊥) → times c (x ∷ xs) ≡ times c xs
times-other c x xs n = ap (λ b. cond b (suc (times c xs)) (times c xs)) (ne_eqb x c (λ e. n (sym e)))

pub times-few : (c : ℕ) (xs : List ℕ) → times c xs ≤ length xs
times-few c [] = omega arith
times-few c (x ∷ xs) = go (nat_eq x c) (times-few c xs) where
  go : (b : Bool) → times c xs ≤ length xs → cond b (suc (times c xs)) (times c xs) ≤ suc (length xs)
  go true l = omega (arith, l)
  go false l = omega (arith, l)

-- the count of x becomes n, and the others stay
module _ (f g : ℕ → ℕ) (x n : ℕ) (at : g x ≡ n) (others : (c : ℕ) → (c ≡ x → ⊥) → g c ≡ f c) where
  pub counts-more : (xs ys : List ℕ) → ((c : ℕ) → f c ≡ times c xs) → n ≡ f x + 1 → ys ≡ xs ++ x ∷ []
      → (c : ℕ) → g c ≡ times c ys
  counts-more xs ys h more put c =
      ⊎_elim
      (λ e. omega (
        arith,
        ap g e,
        ap f e,
        at,
        more,
        h c,
        ap (times c) put,
        times-append c xs (x ∷ []),
        times-same c x [] e,
      ))
      (λ d. omega (
        arith,
        others c d,
        h c,
        ap (times c) put,
        times-append c xs (x ∷ []),
        times-other c x [] d,
      ))
      (cases_eq c x)

  pub counts-less : (k i : ℕ) (cs : List ℕ) → i < length cs → x ≡ get_or cs i x
      → ((c : ℕ) → f c ≡ times c (take k cs) + times c (drop i cs)) → n ≡ f x - 1
      → (c : ℕ) → g c ≡ times c (take k cs) + times c (drop (i + 1) cs)
  counts-less k i cs l is h less c =
      let next : drop i cs ≡ x ∷ drop (i + 1) cs =
      drop_more cs i x l ∙ ap (λ y. y ∷ drop (i + 1) cs) (sym is) in
      ⊎_elim
      (λ e. omega (
        arith,
        ap g e,
        ap f e,
        at,
        less,
        h c,
        ap (times c) next,
        times-same c x (drop (i + 1) cs) e,
      ))
      (λ d. omega (
        arith,
        others c d,
        h c,
        ap (times c) next,
        times-other c x (drop (i + 1) cs) d,
      ))
      (cases_eq c x)

pub counts-split : (f : ℕ → ℕ) (k : ℕ) (cs : List ℕ) → ((c : ℕ) → f c ≡ times c cs)
    → (c : ℕ) → f c ≡ times c (take k cs) + times c (drop k cs)
counts-split f k cs h c =
    h c ∙ ap (times c) (sym (take-append-drop k cs)) ∙ times-append c (take k cs) (drop k cs)

pub counts-end : (f : ℕ → ℕ) (k i : ℕ) (cs ds : List ℕ) → length cs ≤ i → ds ≡ take k cs
    → ((c : ℕ) → f c ≡ times c (take k cs) + times c (drop i cs)) → (c : ℕ) → f c ≡ times c ds
counts-end f k i cs ds l e h c =
    omega (arith, h c, ap (times c) e, ap (times c) (drop_all i cs l))
