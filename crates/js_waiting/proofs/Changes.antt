-- A changed element, and lists that are made by number.
use Rattle.std.proofs.Common.{◌≡◌, ◌≢◌, ℕ, zero, suc, ◌+◌, ◌<◌, List, [], ◌∷◌, map, length, set, get_or, slice_get, true, Some, option_map, is_some, refl, ap, ap₂, sym, ◌∙◌, subst, arith, add-zero}
use Rattle.js_waiting.specs.Counts.{change}
use Rattle.js_waiting.specs.Marked.{map_from}
use Rattle.list_laws.proofs.Numbers.{suc_add-add_suc}

pub change_set : {A : Type 0} (f : A → A) (n : ℕ) (xs : List A) (d : A) → n < length xs
    → change f n xs ≡ set xs n (f (get_or xs n d))
change_set f n [] d l = absurd (omega (arith, l))
change_set f zero (x ∷ xs) d l = refl
change_set f (suc n) (x ∷ xs) d l = ap (λ ys. x ∷ ys) (change_set f n xs d (omega (arith, l)))

pub get-change : {A : Type 0} (f : A → A) (n : ℕ) (xs : List A)
    → slice_get (change f n xs) n ≡ option_map f (slice_get xs n)
get-change f n [] = refl
get-change f zero (x ∷ xs) = refl
get-change f (suc n) (x ∷ xs) = get-change f n xs

pub get_or-change_other : {A : Type 0} (f : A → A) (n m : ℕ) (xs : List A) (d : A) → m ≢ n
    → get_or (change f n xs) m d ≡ get_or xs m d
get_or-change_other f n m [] d e = refl
get_or-change_other f zero zero (x ∷ xs) d e = absurd (e refl)
get_or-change_other f zero (suc m) (x ∷ xs) d e = refl
get_or-change_other f (suc n) zero (x ∷ xs) d e = refl
get_or-change_other f (suc n) (suc m) (x ∷ xs) d e = get_or-change_other f n m xs d (λ h. e (ap suc h))

pub get_low : {A : Type 0} (xs : List A) (n : ℕ) (x : A) → slice_get xs n ≡ Some x → n < length xs
get_low [] n x e = cc
get_low (y ∷ ys) zero x e = omega arith
get_low (y ∷ ys) (suc n) x e = let l = get_low ys n x e in omega (arith, l)

pub get_or_get : {A : Type 0} (xs : List A) (n : ℕ) (x d : A) → slice_get xs n ≡ Some x → get_or xs n d ≡ x
get_or_get [] n x d e = cc
get_or_get (y ∷ ys) zero x d e = cc
get_or_get (y ∷ ys) (suc n) x d e = get_or_get ys n x d e

-- lists that are made by number
pub map_from_same : {A B : Type 0} (f g : ℕ → A → B) (k : ℕ) (xs : List A)
    → ((i : ℕ) (x : A) → slice_get xs i ≡ Some x → f (k + i) x ≡ g (k + i) x) → map_from f k xs ≡ map_from g k xs
map_from_same f g k [] h = refl
map_from_same f g k (x ∷ xs) h =
    ap₂ (λ y ys. y ∷ ys) (subst (λ z. f z x ≡ g z x) (add-zero k) (h 0 x refl))
    (map_from_same f g (suc k) xs (λ i y e. subst (λ z. f z y ≡ g z y) (sym (suc_add-add_suc k i)) (h (suc i) y e)))

pub get-map_from : {A B : Type 0} (f : ℕ → A → B) (k i : ℕ) (xs : List A)
    → slice_get (map_from f k xs) i ≡ option_map (f (k + i)) (slice_get xs i)
get-map_from f k i [] = refl
get-map_from f k zero (x ∷ xs) = ap (λ z. Some (f z x)) (sym (add-zero k))
get-map_from f k (suc i) (x ∷ xs) =
    get-map_from f (suc k) i xs ∙ ap (λ z. option_map (f z) (slice_get xs i)) (suc_add-add_suc k i)

pub get_or-map_from : {A B : Type 0} (f : ℕ → A → B) (k i : ℕ) (xs : List A) (d : A) (e : B)
    → ((j : ℕ) → f j d ≡ e) → get_or (map_from f k xs) i e ≡ f (k + i) (get_or xs i d)
get_or-map_from f k i [] d e h = sym (h (k + i))
get_or-map_from f k zero (x ∷ xs) d e h = ap (λ z. f z x) (sym (add-zero k))
get_or-map_from f k (suc i) (x ∷ xs) d e h =
    get_or-map_from f (suc k) i xs d e h ∙ ap (λ z. f z (get_or xs i d)) (suc_add-add_suc k i)

pub map_from-constant : {A B : Type 0} (f : A → B) (k : ℕ) (xs : List A) → map_from (λ i x. f x) k xs ≡ map f xs
map_from-constant f k [] = refl
map_from-constant f k (x ∷ xs) = ap (λ ys. f x ∷ ys) (map_from-constant f (suc k) xs)

-- the element at j is changed
module _ {A B : Type 0} (f : B → B) (g h : ℕ → A → B) (j : ℕ) (here : (x : A) → f (g j x) ≡ h j x)
    (other : (i : ℕ) (x : A) → i ≢ j → g i x ≡ h i x) where
  pub change_map : (k n : ℕ) (xs : List A) → j ≡ k + n → change f n (map_from g k xs) ≡ map_from h k xs
  change_map k n [] e = refl
  change_map k zero (x ∷ xs) e =
      ap₂ (λ y ys. y ∷ ys) (subst (λ z. f (g z x) ≡ h z x) same (here x))
      (map_from_same g h (suc k) xs (λ i y q. other (suc k + i) y (omega (arith, e))))
    where
      same : j ≡ k
      same = omega (arith, e)
  change_map k (suc n) (x ∷ xs) e =
      ap₂ (λ y ys. y ∷ ys) (other k x (omega (arith, e))) (change_map (suc k) n xs (omega (arith, e)))

-- an element that is written
pub written : {A : Type 0} (xs now : List A) (f : A → A) (n : ℕ) (old new : A) → xs ≡ now → n < length xs
    → old ≡ get_or xs n old → new ≡ f old → set xs n new ≡ change f n now
written xs now f n old new s l e h =
    ap (set xs n) (h ∙ ap f e) ∙ sym (change_set f n xs old l) ∙ ap (change f n) s

pub get-set : {A : Type 0} (xs : List A) (n : ℕ) (x : A) → n < length xs → slice_get (set xs n x) n ≡ Some x
get-set [] n x l = absurd (omega (arith, l))
get-set (y ∷ ys) zero x l = refl
get-set (y ∷ ys) (suc n) x l = get-set ys n x (omega (arith, l))

pub get_here : {A : Type 0} (xs : List A) (n : ℕ) (x : A) → n < length xs → x ≡ get_or xs n x → slice_get xs n ≡ Some x
get_here [] n x l e = absurd (omega (arith, l))
get_here (y ∷ ys) zero x l e = ap Some (sym e)
get_here (y ∷ ys) (suc n) x l e = get_here ys n x (omega (arith, l)) e

-- what is there is below the length
pub some_low : {A : Type 0} (xs : List A) (n : ℕ) → is_some (slice_get xs n) ≡ true → n < length xs
some_low [] n e = cc
some_low (y ∷ ys) zero e = omega arith
some_low (y ∷ ys) (suc n) e = let l = some_low ys n e in omega (arith, l)

pub or_low : {A : Type 0} (xs : List (List A)) (n m : ℕ) → is_some (slice_get (get_or xs n []) m) ≡ true
    → n < length xs
or_low [] n m e = cc
or_low (y ∷ ys) zero m e = omega arith
or_low (y ∷ ys) (suc n) m e = let l = or_low ys n m e in omega (arith, l)
