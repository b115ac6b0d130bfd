-- Tests of lists that ask the same.
use Rattle.std.proofs.Common.{◌≡◌, ℕ, zero, suc, ◌<◌, List, [], ◌∷◌, ◌++◌, map, drop, Bool, ◌&&◌, ◌||◌, not, cond, Option, Some, None, refl, ap, ap₂, ◌∙◌, arith}
use Rattle.std.specs.List.{AllByRecursion}
use Rattle.documents.specs.Tests.{every, some}
use Rattle.documents.specs.Document.{Items, no_items, item, Members, no_members, member, elements, entries, items_depth, members_depth, depth}
use Rattle.documents.specs.Measures.{exactly_one}
use Rattle.schemas.specs.Schema.{lists, meets}

-- conjunctions of equal tests are equal
pub both : {a a' b b' : Bool} → a ≡ a' → b ≡ b' → (a && b) ≡ (a' && b')
both e f = ap₂ (λ x y. x && y) e f

module _ {A : Type 0} (p q : A → Bool) where
  pub every_same : (xs : List A) → AllByRecursion (λ x. p x ≡ q x) xs → every p xs ≡ every q xs
  every_same [] h = refl
  every_same (x ∷ xs) h = both h.0 (every_same xs h.1)

  pub some_same : (xs : List A) → AllByRecursion (λ x. p x ≡ q x) xs → some p xs ≡ some q xs
  some_same [] h = refl
  some_same (x ∷ xs) h = ap₂ (λ a b. a || b) h.0 (some_same xs h.1)

  pub exactly_one_same : (xs : List A) → AllByRecursion (λ x. p x ≡ q x) xs → exactly_one p xs ≡ exactly_one q xs
  exactly_one_same [] h = refl
  exactly_one_same (x ∷ xs) h =
      ap₂ (λ a b. cond a (not b) (exactly_one p xs)) h.0 (some_same xs h.1)
      ∙ ap (λ b. cond (q x) (not (some q xs)) b) (exactly_one_same xs h.1)

module _ {A B : Type 0} (p : B → Bool) (f : A → B) where
  pub every-map : (xs : List A) → every p (map f xs) ≡ every (λ x. p (f x)) xs
  every-map [] = refl
  every-map (x ∷ xs) = ap (λ b. p (f x) && b) (every-map xs)

  pub some-map : (xs : List A) → some p (map f xs) ≡ some (λ x. p (f x)) xs
  some-map [] = refl
  some-map (x ∷ xs) = ap (λ b. p (f x) || b) (some-map xs)

  pub exactly_one-map : (xs : List A) → exactly_one p (map f xs) ≡ exactly_one (λ x. p (f x)) xs
  exactly_one-map [] = refl
  exactly_one-map (x ∷ xs) =
      ap₂ (λ a b. cond (p (f x)) (not a) b) (some-map xs) (exactly_one-map xs)

-- what holds of all elements holds of the later ones, and of both halves
pub all_drop : {A : Type 0} (P : A → Type 0) (n : ℕ) (xs : List A) → AllByRecursion P xs → AllByRecursion P (drop n xs)
all_drop P zero xs h = h
all_drop P (suc n) [] h = tt
all_drop P (suc n) (x ∷ xs) h = all_drop P n xs h.1

pub all_halves : {A : Type 0} (P : A → Type 0) (xs ys : List A) → AllByRecursion P (xs ++ ys)
    → AllByRecursion P xs × AllByRecursion P ys
all_halves P [] ys h = (tt, h)
all_halves P (x ∷ xs) ys h = let rest = all_halves P xs ys h.1 in ((h.0, rest.0), rest.1)

-- a keyword that is there asks the same, where its numbers have a property
pub there_same : {A : Type 0} (P : ℕ → Type 0) (numbers : A → List ℕ) (f g : A → Bool)
    → ((x : A) → AllByRecursion P (numbers x) → f x ≡ g x)
    → (o : Option A) → AllByRecursion P (lists numbers o) → meets f o ≡ meets g o
there_same P numbers f g same None h = refl
there_same P numbers f g same (Some x) h = same x h

-- elements and members lie less deep
pub elements_below : (n : ℕ) (ds : Items) → items_depth ds < n → AllByRecursion (λ d. depth d < n) (elements ds)
elements_below n no_items h = tt
elements_below n (item d ds) h = (omega (arith, h), elements_below n ds (omega (arith, h)))

pub entries_below : (n : ℕ) (ms : Members) → members_depth ms < n → AllByRecursion (λ m. depth m.1 < n) (entries ms)
entries_below n no_members h = tt
entries_below n (member k d ms) h = (omega (arith, h), entries_below n ms (omega (arith, h)))
