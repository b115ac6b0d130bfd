-- What is in a list, and in lists that are made of it.
use Rattle.std.proofs.Common.{◌≡◌, ℕ, zero, suc, ◌+◌, ◌<◌, ◌⊎◌, inl, inr, ⊎_elim, Bool, true, false, cond, List, [], ◌∷◌, ◌++◌, map, reverse, filter, flat_map, take, get_or, slice_get, length, Some, refl, ap, ap₂, sym, ◌∙◌, subst, arith}
use Rattle.std.proofs.lemmas.Bool.{and_parts, and_from}
use Rattle.std.proofs.lemmas.List.{map-append, reverse-append}
use Rattle.documents.specs.Tests.{every}
use Rattle.list_laws.specs.In.{IsIn}

pub every_at : {A : Type 0} (p : A → Bool) (x : A) (xs : List A) → every p xs ≡ true → IsIn x xs → p x ≡ true
every_at p x [] e i = absurd i
every_at p x (y ∷ xs) e (inl q) = subst (λ z. p z ≡ true) (sym q) (and_parts (p y) (every p xs) e).0
every_at p x (y ∷ xs) e (inr i) = every_at p x xs (and_parts (p y) (every p xs) e).1 i

pub every_from : {A : Type 0} (p : A → Bool) (xs : List A) → ((x : A) → IsIn x xs → p x ≡ true) → every p xs ≡ true
every_from p [] h = refl
every_from p (x ∷ xs) h = and_from (p x) (every p xs) (h x (inl refl)) (every_from p xs (λ y i. h y (inr i)))

pub in_left : {A : Type 0} (x : A) (xs ys : List A) → IsIn x xs → IsIn x (xs ++ ys)
in_left x [] ys h = absurd h
in_left x (a ∷ xs) ys (inl e) = inl e
in_left x (a ∷ xs) ys (inr h) = inr (in_left x xs ys h)

-- what is in the second of two lists is in both joined
pub in_right : {A : Type 0} (x : A) (xs ys : List A) → IsIn x ys → IsIn x (xs ++ ys)
in_right x [] ys h = h
in_right x (a ∷ xs) ys h = inr (in_right x xs ys h)

pub from_append : {A : Type 0} (x : A) (xs ys : List A) → IsIn x (xs ++ ys) → IsIn x xs ⊎ IsIn x ys
from_append x [] ys h = inr h
from_append x (a ∷ xs) ys (inl e) = inl (inl e)
from_append x (a ∷ xs) ys (inr h) = ⊎_elim (λ l. inl (inr l)) (λ r. inr r) (from_append x xs ys h)

pub in_flat_map : {A B : Type 0} (f : A → List B) (y : B) (x : A) (xs : List A) → IsIn x xs → IsIn y (f x)
    → IsIn y (flat_map f xs)
in_flat_map f y x [] h k = absurd h
in_flat_map f y x (a ∷ xs) (inl e) k = in_left y (f a) (flat_map f xs) (subst (λ z. IsIn y (f z)) e k)
in_flat_map f y x (a ∷ xs) (inr h) k = in_right y (f a) (flat_map f xs) (in_flat_map f y x xs h k)

pub from_flat_map : {A B : Type 0} (f : A → List B) (y : B) (xs : List A) → IsIn y (flat_map f xs)
    → (x : A) × IsIn x xs × IsIn y (f x)
from_flat_map f y [] h = absurd h
from_flat_map f y (a ∷ xs) h =
    elim (from_append y (f a) (flat_map f xs) h) [
      | inl l ↦ (a, inl refl, l)
      | inr r ↦ let (x, i, k) = from_flat_map f y xs r in (x, inr i, k)
    ]

pub from_map : {A B : Type 0} (f : A → B) (y : B) (xs : List A) → IsIn y (map f xs) → (x : A) × IsIn x xs × (y ≡ f x)
from_map f y [] h = absurd h
from_map f y (a ∷ xs) (inl e) = (a, inl refl, e)
from_map f y (a ∷ xs) (inr h) = let (x, i, e) = from_map f y xs h in (x, inr i, e)

pub in_map : {A B : Type 0} (f : A → B) (x : A) (xs : List A) → IsIn x xs → IsIn (f x) (map f xs)
in_map f x [] i = absurd i
in_map f x (y ∷ xs) (inl e) = inl (ap f e)
in_map f x (y ∷ xs) (inr i) = inr (in_map f x xs i)

pub in_filter : {A : Type 0} (p : A → Bool) (x : A) (xs : List A) → IsIn x xs → p x ≡ true → IsIn x (filter p xs)
in_filter p x [] i e = absurd i
in_filter p x (y ∷ xs) i e = go (p y) refl i (λ j. in_filter p x xs j e) where
  go : (b : Bool) → p y ≡ b → IsIn x (y ∷ xs) → (IsIn x xs → IsIn x (filter p xs))
      → IsIn x (cond b (y ∷ filter p xs) (filter p xs))
  go true f (inl q) more = inl q
  go true f (inr i) more = inr (more i)
  go false f (inl q) more = cc (subst (λ z. p z ≡ true) q e)
  go false f (inr i) more = more i

pub from_take : {A : Type 0} (n : ℕ) (x : A) (xs : List A) → IsIn x (take n xs) → IsIn x xs
from_take zero x xs h = absurd h
from_take (suc n) x [] h = absurd h
from_take (suc n) x (a ∷ xs) (inl e) = inl e
from_take (suc n) x (a ∷ xs) (inr h) = inr (from_take n x xs h)

pub slice_get-in : {A : Type 0} (x : A) (xs : List A) (i : ℕ) → slice_get xs i ≡ Some x → IsIn x xs
slice_get-in x [] i e = cc
slice_get-in x (y ∷ xs) zero e = inl cc
slice_get-in x (y ∷ xs) (suc i) e = inr (slice_get-in x xs i e)

-- where what is in a list is found
pub in-get_or : {A : Type 0} (L : List A) (x d : A) → IsIn x L → (k : ℕ) × (k < length L) × (x ≡ get_or L k d)
in-get_or [] x d i = absurd i
in-get_or (y ∷ L) x d (inl e) = (0, omega arith, e)
in-get_or (y ∷ L) x d (inr i) = let (k, l, e) = in-get_or L x d i in (suc k, omega (arith, l), e)

pub get_or-in : {A : Type 0} (L : List A) (i : ℕ) (d : A) → i < length L → IsIn (get_or L i d) L
get_or-in [] i d l = absurd (omega (arith, l))
get_or-in (x ∷ L) zero d l = inl refl
get_or-in (x ∷ L) (suc i) d l = inr (get_or-in L i d (omega (arith, l)))

-- what is in a joined list
pub slice_get-append : {A : Type 0} (xs ys : List A) (k : ℕ) → k < length xs → slice_get (xs ++ ys) k ≡ slice_get xs k
slice_get-append [] ys k l = absurd (omega (arith, l))
slice_get-append (x ∷ xs) ys zero l = refl
slice_get-append (x ∷ xs) ys (suc k) l = slice_get-append xs ys k (omega (arith, l))

pub slice_get-append_right : {A : Type 0} (xs ys : List A) (j k : ℕ) → k ≡ length xs + j
    → slice_get (xs ++ ys) k ≡ slice_get ys j
slice_get-append_right [] ys j k e = ap (slice_get ys) (omega (arith, e))
slice_get-append_right (x ∷ xs) ys j zero e = absurd (omega (arith, e))
slice_get-append_right (x ∷ xs) ys j (suc k) e = slice_get-append_right xs ys j k (omega (arith, e))

pub length-end : {A : Type 0} (xs : List A) (x : A) → length (xs ++ x ∷ []) ≡ suc (length xs)
length-end [] x = refl
length-end (y ∷ xs) x = ap suc (length-end xs x)

pub map-reverse : {A B : Type 0} (f : A → B) (xs : List A) → map f (reverse xs) ≡ reverse (map f xs)
map-reverse f [] = refl
map-reverse f (x ∷ xs) =
    ap (map f) (reverse-append (x ∷ []) xs) ∙ map-append f (reverse xs) (x ∷ [])
    ∙ ap (λ ys. ys ++ f x ∷ []) (map-reverse f xs) ∙ sym (reverse-append (f x ∷ []) (map f xs))

-- what comes last comes first the other way round
pub reverse-last : {A : Type 0} (xs ys : List A) (x : A) → ys ≡ xs ++ x ∷ [] → reverse ys ≡ x ∷ reverse xs
reverse-last xs ys x e = ap reverse e ∙ reverse-append xs (x ∷ [])

-- what comes first of those that pass a test; none passes where none is left
pub filter_head : {A : Type 0} (test : A → Bool) (xs : List A) (y : A) (ys : List A)
    → filter test xs ≡ y ∷ ys → (test y ≡ true) × IsIn y xs
filter_head test [] y ys e = cc e
filter_head test (x ∷ xs) y ys e = go (test x) refl e (filter_head test xs y ys) where
  go : (b : Bool) → test x ≡ b → cond b (x ∷ filter test xs) (filter test xs) ≡ y ∷ ys
      → (filter test xs ≡ y ∷ ys → (test y ≡ true) × IsIn y xs) → (test y ≡ true) × IsIn y (x ∷ xs)
  go true t f more = let q : x ≡ y = cc f in (subst (λ z. test z ≡ true) q t, inl (sym q))
  go false t f more = let (a, i) = more f in (a, inr i)

pub filter_none : {A : Type 0} (test : A → Bool) (xs : List A) (x : A)
    → filter test xs ≡ [] → IsIn x xs → test x ≡ true → ⊥
filter_none test xs x e i t = subst (λ z. IsIn x z) e (in_filter test x xs i t)

-- two beginnings of one list: the second goes on past the first, or the first has the second at its head
pub prefixes : {A : Type 0} (a b c d : List A) → a ++ b ≡ c ++ d
    → ((z : A) × (e : List A) × (c ≡ a ++ z ∷ e) × (b ≡ z ∷ e ++ d)) ⊎ ((e : List A) × (a ≡ c ++ e))
prefixes a b [] d q = inr (a, refl)
prefixes [] b (x ∷ c) d q = inl (x, c, refl, q)
prefixes (y ∷ a) b (x ∷ c) d q =
    let e : y ≡ x = cc q in
    let t : a ++ b ≡ c ++ d = cc q in
    elim (prefixes a b c d t) [
      | inl (z, r, p, s) ↦ inl (z, r, ap₂ (λ u v. u ∷ v) (sym e) p, s)
      | inr (r, p) ↦ inr (r, ap₂ (λ u v. u ∷ v) e p)
    ]
