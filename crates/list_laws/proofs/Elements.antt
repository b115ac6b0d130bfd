-- Facts of each element by std's words (`AllByRecursion`, `Contains`), and how `every`, `some` and `exactly_one` meet
-- `map`, `++` and `flat_map`.
use Rattle.std.proofs.Common.{zero, suc, inl, inr, flat_map, Contains, subst, arith, ◌≡◌, Bool, true, false, ◌&&◌, ◌||◌, not, cond, List, [], ◌∷◌, ◌++◌, map, refl, ap, ap₂, sym, ◌∙◌}
use Rattle.std.specs.List.{AllByRecursion}
use Rattle.std.proofs.Math.Bool.{and_assoc, or_assoc}
use Rattle.std.proofs.lemmas.Bool.{and_parts, and_from, or_cases, or_parts, or_from, or_left, or_right}
use Rattle.documents.specs.Tests.{every, some}
use Rattle.documents.specs.Measures.{exactly_one}

-- facts of each element

-- what all of a list have, they have where it is weakened
pub all-weaker : {A : Type 0} (P Q : A → Type 0) (xs : List A) → ((x : A) → P x → Q x)
    → AllByRecursion P xs → AllByRecursion Q xs
all-weaker P Q [] f h = tt
all-weaker P Q (x ∷ xs) f h = (f x h.0, all-weaker P Q xs f h.1)

pub all-both : {A : Type 0} (P Q R : A → Type 0) (xs : List A) → ((x : A) → P x → Q x → R x)
    → AllByRecursion P xs → AllByRecursion Q xs → AllByRecursion R xs
all-both P Q R [] f g h = tt
all-both P Q R (x ∷ xs) f g h = (f x g.0 h.0, all-both P Q R xs f g.1 h.1)

pub all-everywhere : {A : Type 0} (P : A → Type 0) (xs : List A) → ((x : A) → P x) → AllByRecursion P xs
all-everywhere P [] f = tt
all-everywhere P (x ∷ xs) f = (f x, all-everywhere P xs f)

pub all-map : {A B : Type 0} (P : B → Type 0) (f : A → B) (xs : List A) → AllByRecursion (λ x. P (f x)) xs
    → AllByRecursion P (map f xs)
all-map P f [] h = tt
all-map P f (x ∷ xs) h = (h.0, all-map P f xs h.1)

pub all-append : {A : Type 0} (P : A → Type 0) (xs ys : List A) → AllByRecursion P xs → AllByRecursion P ys
    → AllByRecursion P (xs ++ ys)
all-append P [] ys g h = h
all-append P (x ∷ xs) ys g h = (g.0, all-append P xs ys g.1 h)

pub all-flat_map : {A B : Type 0} (P : B → Type 0) (f : A → List B) (xs : List A)
    → AllByRecursion (λ x. AllByRecursion P (f x)) xs → AllByRecursion P (flat_map f xs)
all-flat_map P f [] h = tt
all-flat_map P f (x ∷ xs) h = all-append P (f x) (flat_map f xs) h.0 (all-flat_map P f xs h.1)

pub all-at : {A : Type 0} (P : A → Type 0) (xs : List A) (x : A) → AllByRecursion P xs → Contains xs x → P x
all-at P [] x h (k, l, e) = absurd (omega arith)
all-at P (y ∷ xs) x h (zero, l, e) = subst P e h.0
all-at P (y ∷ xs) x h (suc k, l, e) = all-at P xs x h.1 (k, omega arith, e)

pub all-from : {A : Type 0} (P : A → Type 0) (xs : List A) → ((x : A) → Contains xs x → P x)
    → AllByRecursion P xs
all-from P [] f = tt
all-from P (x ∷ xs) f =
    (f x (0, omega arith, refl), all-from P xs (λ y (k, l, e). f y (suc k, omega arith, e)))

-- tests that agree on each element

pub every-same : {A : Type 0} (f g : A → Bool) (xs : List A) → AllByRecursion (λ x. f x ≡ g x) xs
    → every f xs ≡ every g xs
every-same f g [] h = refl
every-same f g (x ∷ xs) h = ap₂ (λ a b. a && b) h.0 (every-same f g xs h.1)

pub some-same : {A : Type 0} (f g : A → Bool) (xs : List A) → AllByRecursion (λ x. f x ≡ g x) xs
    → some f xs ≡ some g xs
some-same f g [] h = refl
some-same f g (x ∷ xs) h = ap₂ (λ a b. a || b) h.0 (some-same f g xs h.1)

pub exactly_one-same : {A : Type 0} (f g : A → Bool) (xs : List A) → AllByRecursion (λ x. f x ≡ g x) xs
    → exactly_one f xs ≡ exactly_one g xs
exactly_one-same f g [] h = refl
exactly_one-same f g (x ∷ xs) h =
    ap₂ (λ a b. cond a (not (some f xs)) b) h.0 (exactly_one-same f g xs h.1)
    ∙ ap (λ b. cond (g x) (not b) (exactly_one g xs)) (some-same f g xs h.1)

-- a test that passes everywhere, and facts

pub every-all : {A : Type 0} (p : A → Bool) (xs : List A) → every p xs ≡ true
    → AllByRecursion (λ x. p x ≡ true) xs
every-all p [] e = tt
every-all p (x ∷ xs) e = let (a, b) = and_parts (p x) (every p xs) e in (a, every-all p xs b)

pub all-every : {A : Type 0} (p : A → Bool) (xs : List A) → AllByRecursion (λ x. p x ≡ true) xs
    → every p xs ≡ true
all-every p [] h = refl
all-every p (x ∷ xs) h = and_from (p x) (every p xs) h.0 (all-every p xs h.1)

pub every-weaker : {A : Type 0} (p q : A → Bool) (xs : List A) → ((x : A) → p x ≡ true → q x ≡ true)
    → every p xs ≡ true → every q xs ≡ true
every-weaker p q xs f e = all-every q xs (all-weaker _ _ xs f (every-all p xs e))

pub some-all : {A : Type 0} (p : A → Bool) (xs : List A) → some p xs ≡ false
    → AllByRecursion (λ x. p x ≡ false) xs
some-all p [] e = tt
some-all p (x ∷ xs) e = let (a, b) = or_parts (p x) (some p xs) e in (a, some-all p xs b)

pub all-some : {A : Type 0} (p : A → Bool) (xs : List A) → AllByRecursion (λ x. p x ≡ false) xs
    → some p xs ≡ false
all-some p [] h = refl
all-some p (x ∷ xs) h = or_from (p x) (some p xs) h.0 (all-some p xs h.1)

pub some-element : {A : Type 0} (p : A → Bool) (xs : List A) → some p xs ≡ true
    → (x : A) × Contains xs x × (p x ≡ true)
some-element p [] e = cc
some-element p (x ∷ xs) e =
    elim (or_cases (p x) (some p xs) e) [
      | inl a ↦ (x, (0, omega arith, refl), a)
      | inr b ↦ let (y, (k, l, same), h) = some-element p xs b in (y, (suc k, omega arith, same), h)
    ]

pub contains-some : {A : Type 0} (p : A → Bool) (xs : List A) (x : A) → Contains xs x → p x ≡ true
    → some p xs ≡ true
contains-some p [] x (k, l, e) h = absurd (omega arith)
contains-some p (y ∷ xs) x (zero, l, e) h = or_left (p y) (some p xs) (subst (λ z. p z ≡ true) (sym e) h)
contains-some p (y ∷ xs) x (suc k, l, e) h =
    or_right (p y) (some p xs) (contains-some p xs x (k, omega arith, e) h)

-- lists made by `map`, `++` and `flat_map`

pub every-map : {A B : Type 0} (p : B → Bool) (f : A → B) (xs : List A)
    → every p (map f xs) ≡ every (λ x. p (f x)) xs
every-map p f [] = refl
every-map p f (x ∷ xs) = ap (λ b. p (f x) && b) (every-map p f xs)

pub some-map : {A B : Type 0} (p : B → Bool) (f : A → B) (xs : List A)
    → some p (map f xs) ≡ some (λ x. p (f x)) xs
some-map p f [] = refl
some-map p f (x ∷ xs) = ap (λ b. p (f x) || b) (some-map p f xs)

pub exactly_one-map : {A B : Type 0} (p : B → Bool) (f : A → B) (xs : List A)
    → exactly_one p (map f xs) ≡ exactly_one (λ x. p (f x)) xs
exactly_one-map p f [] = refl
exactly_one-map p f (x ∷ xs) =
    ap₂ (λ a b. cond (p (f x)) (not a) b) (some-map p f xs) (exactly_one-map p f xs)

pub every-append : {A : Type 0} (p : A → Bool) (xs ys : List A)
    → every p (xs ++ ys) ≡ (every p xs && every p ys)
every-append p [] ys = refl
every-append p (x ∷ xs) ys =
    ap (λ b. p x && b) (every-append p xs ys) ∙ sym (and_assoc (p x) (every p xs) (every p ys))

pub some-append : {A : Type 0} (p : A → Bool) (xs ys : List A) → some p (xs ++ ys) ≡ (some p xs || some p ys)
some-append p [] ys = refl
some-append p (x ∷ xs) ys =
    ap (λ b. p x || b) (some-append p xs ys) ∙ sym (or_assoc (p x) (some p xs) (some p ys))

pub some-flat_map : {A B : Type 0} (p : B → Bool) (f : A → List B) (xs : List A)
    → some p (flat_map f xs) ≡ some (λ x. some p (f x)) xs
some-flat_map p f [] = refl
some-flat_map p f (x ∷ xs) =
    some-append p (f x) (flat_map f xs) ∙ ap (λ b. some p (f x) || b) (some-flat_map p f xs)

pub flat_map-same : {A B : Type 0} (f g : A → List B) (xs : List A) → AllByRecursion (λ x. f x ≡ g x) xs
    → flat_map f xs ≡ flat_map g xs
flat_map-same f g [] h = refl
flat_map-same f g (x ∷ xs) h = ap₂ (λ a b. a ++ b) h.0 (flat_map-same f g xs h.1)
