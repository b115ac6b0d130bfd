-- Elements and members of a document beside those of a part, one after another.
use Rattle.std.proofs.Common.{◌≡◌, ℕ, zero, suc, ◌<◌, ◌≤◌, List, [], ◌∷◌, map, drop, length, get_or, Bool, true, false, ◌&&◌, nat_lt, refl, sym, ap, ap₂, ◌∙◌, arith}
use Rattle.std.proofs.lemmas.Bool.{and_parts, and_from, ltb-true}
use Rattle.std.proofs.lemmas.List.{drop_all}
use Rattle.documents.specs.Tests.{every, same_word}
use Rattle.documents.specs.Document.{Document, items_of, members_of}
use Rattle.documents.specs.Measures.{same_document, same_items, same_members}

and_false : (a : Bool) → (a && false) ≡ false
and_false true = refl
and_false false = refl

pub below-more : (n m : ℕ) (is : List ℕ) → n ≤ m → every (λ i. nat_lt i n) is ≡ true → every (λ i. nat_lt i m) is ≡ true
below-more n m [] l h = refl
below-more n m (i ∷ is) l h =
    let both = and_parts (nat_lt i n) (every (λ j. nat_lt j n) is) h in
    and_from (nat_lt i m) (every (λ j. nat_lt j m) is) (wider i both.0) (below-more n m is l both.1)
  where
    wider : (i : ℕ) → nat_lt i n ≡ true → nat_lt i m ≡ true
    wider i h = grind (arith, l, ltb-true i n h)

-- the number at a place
pub below-at : {A : Type 0} (number : A → ℕ) (m i : ℕ) (xs : List A) (is : List ℕ) (x : A) → map number xs ≡ is
    → every (λ j. nat_lt j m) is ≡ true → i < length xs → x ≡ get_or xs i x → number x < m
below-at {A = A} number m i xs is x e h l at = go i xs (ap (every (λ j. nat_lt j m)) e ∙ h) l at where
  go : (i : ℕ) (xs : List A) → every (λ j. nat_lt j m) (map number xs) ≡ true → i < length xs → x ≡ get_or xs i x
      → number x < m
  go i [] h l at = absurd (omega (arith, l))
  go zero (y ∷ ys) h l at =
      let both = and_parts (nat_lt (number y) m) (every (λ j. nat_lt j m) (map number ys)) h in
      omega (arith, ltb-true (number y) m both.0, ap number at)
  go (suc i) (y ∷ ys) h l at =
      go i ys ((and_parts (nat_lt (number y) m) (every (λ j. nat_lt j m) (map number ys)) h).1) (omega (arith, l)) at

-- the element at a place within a list, whatever stands for a missing one
pub item-same : {A : Type 0} (xs : List A) (i : ℕ) (d e : A) → i < length xs → get_or xs i d ≡ get_or xs i e
item-same [] i d e l = absurd (omega (arith, l))
item-same (x ∷ xs) zero d e l = refl
item-same (x ∷ xs) (suc i) d e l = item-same xs i d e (omega (arith, l))

pub map-twice : {A B C : Type 0} (f : B → C) (g : A → B) (xs : List A) → map f (map g xs) ≡ map (λ x. f (g x)) xs
map-twice f g [] = refl
map-twice f g (x ∷ xs) = ap (λ ys. f (g x) ∷ ys) (map-twice f g xs)

module _ {A B : Type 0} (f : A → Document) (g : B → Document) where
  pub items-sizes : (xs : List A) (ys : List B) → (length xs ≡ length ys → ⊥)
      → same_items (items_of (map f xs)) (items_of (map g ys)) ≡ false
  items-sizes [] [] h = absurd (h refl)
  items-sizes [] (y ∷ ys) h = refl
  items-sizes (x ∷ xs) [] h = refl
  items-sizes (x ∷ xs) (y ∷ ys) h =
      ap (λ b. same_document (f x) (g y) && b) (items-sizes xs ys (λ e. h (ap suc e)))
      ∙ and_false (same_document (f x) (g y))

  pub items-other : (i : ℕ) (xs : List A) (ys : List B) (x : A) (y : B) → i < length xs → length xs ≡ length ys
      → x ≡ get_or xs i x → y ≡ get_or ys i y → same_document (f x) (g y) ≡ false
      → same_items (items_of (map f (drop i xs))) (items_of (map g (drop i ys))) ≡ false
  items-other i [] ys x y l same a b h = absurd (omega (arith, l))
  items-other i (v ∷ xs) [] x y l same a b h = absurd (omega (arith, same))
  items-other zero (v ∷ xs) (w ∷ ys) x y l same a b h =
      ap (λ c. c && same_items (items_of (map f xs)) (items_of (map g ys)))
      (ap₂ same_document (ap f (sym a)) (ap g (sym b)) ∙ h)
  items-other (suc i) (v ∷ xs) (w ∷ ys) x y l same a b h =
      items-other i xs ys x y (omega (arith, l)) (omega (arith, same)) a b h

  pub items-end : (i : ℕ) (xs : List A) (ys : List B) → length xs ≤ i → length xs ≡ length ys
      → same_items (items_of (map f (drop i xs))) (items_of (map g (drop i ys))) ≡ true
  items-end i xs ys l same =
      ap₂ (λ vs ws. same_items (items_of (map f vs)) (items_of (map g ws))) (drop_all i xs l)
      (drop_all i ys (omega (arith, l, same)))

module _ {A B : Type 0} (f : A → List ℕ × Document) (g : B → List ℕ × Document) where
  pub members-sizes : (xs : List A) (ys : List B) → (length xs ≡ length ys → ⊥)
      → same_members (members_of (map f xs)) (members_of (map g ys)) ≡ false
  members-sizes [] [] h = absurd (h refl)
  members-sizes [] (y ∷ ys) h = refl
  members-sizes (x ∷ xs) [] h = refl
  members-sizes (x ∷ xs) (y ∷ ys) h =
      ap (λ b. (same_word (f x).0 (g y).0 && same_document (f x).1 (g y).1) && b)
      (members-sizes xs ys (λ e. h (ap suc e)))
      ∙ and_false (same_word (f x).0 (g y).0 && same_document (f x).1 (g y).1)

  abbrev pub same_one : A → B → Bool
  same_one x y = same_word (f x).0 (g y).0 && same_document (f x).1 (g y).1

  pub members-other : (i : ℕ) (xs : List A) (ys : List B) (x : A) (y : B) → i < length xs → length xs ≡ length ys
      → x ≡ get_or xs i x → y ≡ get_or ys i y → same_one x y ≡ false
      → same_members (members_of (map f (drop i xs))) (members_of (map g (drop i ys))) ≡ false
  members-other i [] ys x y l same a b h = absurd (omega (arith, l))
  members-other i (v ∷ xs) [] x y l same a b h = absurd (omega (arith, same))
  members-other zero (v ∷ xs) (w ∷ ys) x y l same a b h =
      ap (λ c. c && same_members (members_of (map f xs)) (members_of (map g ys)))
      (ap₂ same_one (sym a) (sym b) ∙ h)
  members-other (suc i) (v ∷ xs) (w ∷ ys) x y l same a b h =
      members-other i xs ys x y (omega (arith, l)) (omega (arith, same)) a b h

  pub members-end : (i : ℕ) (xs : List A) (ys : List B) → length xs ≤ i → length xs ≡ length ys
      → same_members (members_of (map f (drop i xs))) (members_of (map g (drop i ys))) ≡ true
  members-end i xs ys l same =
      ap₂ (λ vs ws. same_members (members_of (map f vs)) (members_of (map g ws))) (drop_all i xs l)
      (drop_all i ys (omega (arith, l, same)))
