-- Lists of places as sets: what is among them, what of them lies below a number, and what comes of them all.
use Rattle.std.proofs.lemmas.Bool.{or_cases, or_left, or_right, false_from_ne_true, eqb-true, eq-eqb, ltb-true, ltb-false}
use Rattle.std.proofs.Common.{◌≡◌, ℕ, ◌<◌, inl, inr, ⊎_elim, Bool, true, false, ◌||◌, nat_lt, nat_eq, List, [], ◌∷◌, ◌++◌, flat_map, if◌then◌else◌, refl, sym, ◌∙◌, ap, subst, arith}
use Rattle.std.proofs.lemmas.Grind.{flat_map-append}
use Rattle.std.specs.List.{list_any}
use Rattle.list_laws.proofs.Lists.{in_left, in_right, from_append, in_flat_map, from_flat_map}
use Rattle.list_laws.specs.In.{IsIn}
use Rattle.state_laws.specs.Flow.{is_among}
use Rattle.list_laws.proofs.Booleans.{same_test}
use Rattle.list_laws.proofs.Tests.{any_from, any_find}

pub in_among : (j : ℕ) (js : List ℕ) → IsIn j js → is_among js j ≡ true
in_among j js h = any_from (nat_eq j) j js h (eq-eqb j j refl)

pub from_among : (j : ℕ) (js : List ℕ) → is_among js j ≡ true → IsIn j js
from_among j js h =
    let (x, i, t) = any_find (nat_eq j) js h in subst (λ z. IsIn z js) (sym (eqb-true j x t)) i

pub same_among : (j : ℕ) (xs ys : List ℕ) → (IsIn j xs → IsIn j ys) → (IsIn j ys → IsIn j xs)
    → is_among xs j ≡ is_among ys j
same_among j xs ys f g =
    same_test _ _ (λ h. in_among j ys (f (from_among j xs h))) (λ h. in_among j xs (g (from_among j ys h)))

-- what lies below n in one list lies in the other
abbrev pub Fits : ℕ → List ℕ → List ℕ → Type 0
Fits n xs ys = (j : ℕ) → j < n → IsIn j xs → IsIn j ys

-- two lists have the same places below n
abbrev pub Same : ℕ → List ℕ → List ℕ → Type 0
Same n xs ys = Fits n xs ys × Fits n ys xs

pub same_self : (n : ℕ) (xs : List ℕ) → Same n xs xs
same_self n xs = (λ j l h. h, λ j l h. h)

pub same_back : (n : ℕ) (xs ys : List ℕ) → Same n xs ys → Same n ys xs
same_back n xs ys s = (s.1, s.0)

pub any_fits : (test : ℕ → Bool) (n : ℕ) (xs ys : List ℕ) → ((i : ℕ) → test i ≡ true → i < n) → Fits n xs ys
    → list_any test xs ≡ true → list_any test ys ≡ true
any_fits test n xs ys b f h =
    let (x, i, t) = any_find test xs h in any_from test x ys (f x (b x t) i) t

pub any_same : (test : ℕ → Bool) (n : ℕ) (xs ys : List ℕ) → ((i : ℕ) → test i ≡ true → i < n) → Same n xs ys
    → list_any test xs ≡ list_any test ys
any_same test n xs ys b s = same_test _ _ (any_fits test n xs ys b s.0) (any_fits test n ys xs b s.1)

-- those that lie below n
abbrev pub below : ℕ → List ℕ → List ℕ
below n [] = []
below n (x ∷ xs) = if nat_lt x n then x ∷ below n xs else below n xs

pub in_below : (n j : ℕ) (xs : List ℕ) → j < n → IsIn j xs → IsIn j (below n xs)
in_below n j [] l h = h
in_below n j (x ∷ xs) l h = go (nat_lt x n) refl (λ i. in_below n j xs l i) where
  go : (b : Bool) → nat_lt x n ≡ b → (IsIn j xs → IsIn j (below n xs))
      → IsIn j (if b then x ∷ below n xs else below n xs)
  go true e more = ⊎_elim (λ q. inl q) (λ i. inr (more i)) h
  go false e more = ⊎_elim (λ q. absurd (omega (arith, q, l, ltb-false x n e))) more h

pub from_below : (n j : ℕ) (xs : List ℕ) → IsIn j (below n xs) → (j < n) × IsIn j xs
from_below n j [] h = absurd h
from_below n j (x ∷ xs) h = go (nat_lt x n) refl (λ i. from_below n j xs i) h where
  go : (b : Bool) → nat_lt x n ≡ b → (IsIn j (below n xs) → (j < n) × IsIn j xs)
      → IsIn j (if b then x ∷ below n xs else below n xs) → (j < n) × IsIn j (x ∷ xs)
  go true e more (inl q) = (omega (arith, q, ltb-true x n e), inl q)
  go true e more (inr i) = let (l, k) = more i in (l, inr k)
  go false e more i = let (l, k) = more i in (l, inr k)

pub below_same : (n : ℕ) (xs : List ℕ) → Same n (below n xs) xs
below_same n xs = (λ j l h. (from_below n j xs h).1, λ j l h. in_below n j xs l h)

pub below_lacks : (n : ℕ) (xs : List ℕ) → is_among (below n xs) n ≡ false
below_lacks n xs =
    false_from_ne_true (is_among (below n xs) n)
    (λ h. let (l, i) = from_below n n xs (from_among n (below n xs) h) in absurd (omega (arith, l)))

-- what comes of a list of lists
pub flat_flat : {A B C : Type 0} (g : B → List C) (f : A → List B) (xs : List A)
    → flat_map g (flat_map f xs) ≡ flat_map (λ x. flat_map g (f x)) xs
flat_flat g f [] = refl
flat_flat g f (x ∷ xs) =
    flat_map-append g (f x) (flat_map f xs) ∙ ap (λ r. flat_map g (f x) ++ r) (flat_flat g f xs)

pub flat_same : {A B : Type 0} (f g : A → List B) (xs : List A) → ((x : A) → f x ≡ g x)
    → flat_map f xs ≡ flat_map g xs
flat_same f g [] e = refl
flat_same f g (x ∷ xs) e = ap (λ r. r ++ flat_map f xs) (e x) ∙ ap (λ r. g x ++ r) (flat_same f g xs e)

pub flat_single : (xs : List ℕ) → flat_map (λ x. x ∷ []) xs ≡ xs
flat_single [] = refl
flat_single (x ∷ xs) = ap (λ r. x ∷ r) (flat_single xs)

pub among_append : (j : ℕ) (xs ys : List ℕ) → is_among (xs ++ ys) j ≡ is_among xs j || is_among ys j
among_append j xs ys =
    same_test _ _
    (λ h. ⊎_elim (λ a. or_left _ _ (in_among j xs a)) (λ b. or_right _ _ (in_among j ys b))
    (from_append j xs ys (from_among j (xs ++ ys) h)))
    (λ h. in_among j (xs ++ ys) (⊎_elim (λ a. in_left j xs ys (from_among j xs a))
    (λ b. in_right j xs ys (from_among j ys b))
    (or_cases (is_among xs j) (is_among ys j) h)))

-- what comes of two functions at each place
pub among_both : (f g : ℕ → List ℕ) (j : ℕ) (xs : List ℕ)
    → is_among (flat_map (λ i. f i ++ g i) xs) j ≡ is_among (flat_map f xs) j || is_among (flat_map g xs) j
among_both f g j xs = same_test _ _ to from where
  to : is_among (flat_map (λ i. f i ++ g i) xs) j ≡ true
      → (is_among (flat_map f xs) j || is_among (flat_map g xs) j) ≡ true
  to h =
      let (x, i, k) = from_flat_map (λ i. f i ++ g i) j xs (from_among j (flat_map (λ i. f i ++ g i) xs) h) in
      ⊎_elim (λ a. or_left _ _ (in_among j (flat_map f xs) (in_flat_map f j x xs i a)))
      (λ b. or_right _ _ (in_among j (flat_map g xs) (in_flat_map g j x xs i b)))
      (from_append j (f x) (g x) k)

  from : (is_among (flat_map f xs) j || is_among (flat_map g xs) j) ≡ true
      → is_among (flat_map (λ i. f i ++ g i) xs) j ≡ true
  from h =
      in_among j (flat_map (λ i. f i ++ g i) xs)
      (⊎_elim
      (λ a. let (x, i, k) = from_flat_map f j xs (from_among j (flat_map f xs) a) in
      in_flat_map (λ i. f i ++ g i) j x xs i (in_left j (f x) (g x) k))
      (λ b. let (x, i, k) = from_flat_map g j xs (from_among j (flat_map g xs) b) in
      in_flat_map (λ i. f i ++ g i) j x xs i (in_right j (f x) (g x) k))
      (or_cases (is_among (flat_map f xs) j) (is_among (flat_map g xs) j) h))
