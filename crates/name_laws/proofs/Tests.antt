-- Tests of the elements of a list, and places in it.
use Rattle.std.proofs.Common.{◌≡◌, ℕ, List, [], ◌∷◌, ◌++◌, Bool, true, false, ◌&&◌, ◌||◌, not, if◌then◌else◌, nat_eq, inl, inr, eqb-true, refl, ap, sym, ◌∙◌, subst}
use Rattle.std.specs.List.{AllByRecursion, list_any}
use Rattle.std.specs.List.Sorted.{IsPermutation}
use Rattle.std.proofs.lemmas.Bool.{and_parts, and_from, or_cases, or_left, or_right, true≢false}
use Rattle.std.proofs.lemmas.List.Sorted.{list_any-IsPermutation}
use Rattle.documents.specs.Tests.{every, some}
use Rattle.list_laws.proofs.Elements.{some-append, every-weaker}
use Rattle.name_laws.specs.Plans.{has_place}
use Rattle.list_laws.proofs.Numbers.{nat_eq-refl}

pub every-always : {A : Type 0} (p : A → Bool) (xs : List A) → ((x : A) → p x ≡ true) → every p xs ≡ true
every-always p [] f = refl
every-always p (x ∷ xs) f = and_from (p x) (every p xs) (f x) (every-always p xs f)

-- what holds of each of the places holds of one that is among them
pub every-has : (f : ℕ → Bool) (qs : List ℕ) (q : ℕ) → every f qs ≡ true → has_place qs q ≡ true → f q ≡ true
every-has f [] q h e = absurd (cc)
every-has f (x ∷ qs) q h e =
    let (one, more) = and_parts (f x) (every f qs) h in
    elim (or_cases (nat_eq q x) (has_place qs q) e) [
      | inl a ↦ subst (λ y. f y ≡ true) (sym (eqb-true q x a)) one
      | inr b ↦ every-has f qs q more b
    ]

pub all-has : (P : ℕ → Type 0) (qs : List ℕ) (q : ℕ) → AllByRecursion P qs → has_place qs q ≡ true → P q
all-has P [] q h e = absurd (cc)
all-has P (x ∷ qs) q h e =
    elim (or_cases (nat_eq q x) (has_place qs q) e) [
      | inl a ↦ subst P (sym (eqb-true q x a)) h.0
      | inr b ↦ all-has P qs q h.1 b
    ]

pub has-left : (xs ys : List ℕ) (q : ℕ) → has_place xs q ≡ true → has_place (xs ++ ys) q ≡ true
has-left xs ys q h = some-append (nat_eq q) xs ys ∙ or_left (has_place xs q) (has_place ys q) h

pub has-right : (xs ys : List ℕ) (q : ℕ) → has_place ys q ≡ true → has_place (xs ++ ys) q ≡ true
has-right xs ys q h = some-append (nat_eq q) xs ys ∙ or_right (has_place xs q) (has_place ys q) h

-- each of a list is in it, and in a list that ends in it
pub has-all : (qs : List ℕ) → every (has_place qs) qs ≡ true
has-all [] = refl
has-all (q ∷ qs) =
    and_from _ _ (or_left (nat_eq q q) (has_place qs q) (nat_eq-refl q))
    (every-weaker (has_place qs) (has_place (q ∷ qs)) qs (λ x h. or_right (nat_eq x q) (has_place qs x) h) (has-all qs))

pub some-list_any : {A : Type 0} (p : A → Bool) (xs : List A) → list_any p xs ≡ some p xs
some-list_any p [] = refl
some-list_any p (x ∷ xs) = ap (λ b. p x || b) (some-list_any p xs)

pub some-permuted : {A : Type 0} (p : A → Bool) (xs ys : List A) → IsPermutation xs ys → some p xs ≡ some p ys
some-permuted p xs ys h = sym (some-list_any p xs) ∙ list_any-IsPermutation p xs ys h ∙ some-list_any p ys

every-some : {A : Type 0} (f : A → Bool) (xs : List A) → every f xs ≡ not (some (λ x. not (f x)) xs)
every-some f [] = refl
every-some f (x ∷ xs) = go (f x) (every-some f xs) where
  go : (b : Bool) → every f xs ≡ not (some (λ x. not (f x)) xs)
      → (b && every f xs) ≡ not (not b || some (λ x. not (f x)) xs)
  go true h = h
  go false h = refl

pub every-permuted : {A : Type 0} (f : A → Bool) (xs ys : List A) → IsPermutation xs ys → every f xs ≡ true
    → every f ys ≡ true
every-permuted f xs ys m h =
    every-some f ys ∙ ap not (sym (some-permuted (λ x. not (f x)) xs ys m)) ∙ sym (every-some f xs) ∙ h

-- what goes into a list unless it is there
pub inserted-new : (found keys : List ℕ) (q : ℕ) → true ≡ not (list_any (nat_eq q) found)
    → keys ≡ (if list_any (nat_eq q) found then found else found ++ q ∷ [])
    → (has_place found q ≡ false) × (keys ≡ found ++ q ∷ [])
inserted-new found keys q a e =
    go (list_any (nat_eq q) found) (some-list_any (nat_eq q) found) a e where
      go : (b : Bool) → b ≡ has_place found q → true ≡ not b → keys ≡ (if b then found else found ++ q ∷ [])
          → (has_place found q ≡ false) × (keys ≡ found ++ q ∷ [])
      go true h a e = absurd (true≢false a)
      go false h a e = (sym h, e)

pub inserted-old : (found keys : List ℕ) (q : ℕ) → false ≡ not (list_any (nat_eq q) found)
    → keys ≡ (if list_any (nat_eq q) found then found else found ++ q ∷ [])
    → (has_place found q ≡ true) × (keys ≡ found)
inserted-old found keys q a e =
    go (list_any (nat_eq q) found) (some-list_any (nat_eq q) found) a e where
      go : (b : Bool) → b ≡ has_place found q → false ≡ not b → keys ≡ (if b then found else found ++ q ∷ [])
          → (has_place found q ≡ true) × (keys ≡ found)
      go true h a e = (sym h, e)
      go false h a e = absurd (true≢false (sym a))
