-- Tests of some of a list and of all of it, by the words of std and by those of documents.
use Rattle.std.proofs.Common.{◌≡◌, List, [], ◌∷◌, map, Bool, ◌||◌, ◌&&◌, refl, ap, ap₂}
use Rattle.std.specs.List.{list_all, list_any}
use Rattle.documents.specs.Tests.{every, some}

pub any-some : {A : Type 0} (p : A → Bool) (xs : List A) → list_any p xs ≡ some p xs
any-some p [] = refl
any-some p (x ∷ xs) = ap (λ b. p x || b) (any-some p xs)

pub all-every : {A : Type 0} (p : A → Bool) (xs : List A) → list_all p xs ≡ every p xs
all-every p [] = refl
all-every p (x ∷ xs) = ap (λ b. p x && b) (all-every p xs)

-- of what stands for the elements
pub any-map : {A B : Type 0} (f : A → B) (p : B → Bool) (xs : List A) → list_any (λ x. p (f x)) xs ≡ some p (map f xs)
any-map f p [] = refl
any-map f p (x ∷ xs) = ap (λ b. p (f x) || b) (any-map f p xs)

pub all-map : {A B : Type 0} (f : A → B) (p : B → Bool) (xs : List A) → list_all (λ x. p (f x)) xs ≡ every p (map f xs)
all-map f p [] = refl
all-map f p (x ∷ xs) = ap (λ b. p (f x) && b) (all-map f p xs)

pub every-alike : {A : Type 0} (p q : A → Bool) (xs : List A) → ((x : A) → p x ≡ q x) → every p xs ≡ every q xs
every-alike p q [] h = refl
every-alike p q (x ∷ xs) h = ap₂ (λ a b. a && b) (h x) (every-alike p q xs h)
