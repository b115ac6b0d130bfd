-- The key lemma, `rest_cmp`: two lists are compared by the elements at a place, and else by what comes after it.
use Rattle.std.proofs.Common.{◌≡◌, ℕ, zero, suc, ◌<◌, ◌≤◌, List, [], ◌∷◌, map, drop, length, get_or, Ordering, Less, Equal, Greater, refl, sym, ap, ap₂, ◌∙◌, arith}
use Rattle.std.proofs.lemmas.List.{drop_all}
use Rattle.std.specs.Ordering.{ordering_then}
use Rattle.std.specs.Cmp.Lexicographic.{slice_cmp}
use Rattle.documents.specs.Document.{Document, items_of, members_of}
use Rattle.js_valid.specs.DocumentOrder.{document_cmp, items_cmp, members_cmp, named_cmp}

module _ {A B : Type 0} (R : A → B → Ordering) where
  pub rest_cmp : (i : ℕ) (xs : List A) (ys : List B) (x : A) (y : B) → i < length xs → i < length ys → x ≡ get_or xs i x
      → y ≡ get_or ys i y
      → slice_cmp R (drop i xs) (drop i ys)
      ≡ ordering_then (R x y) (slice_cmp R (drop (suc i) xs) (drop (suc i) ys))
  rest_cmp i [] ys x y l m a b = absurd (omega (arith, l))
  rest_cmp i (v ∷ xs) [] x y l m a b = absurd (omega (arith, m))
  rest_cmp zero (v ∷ xs) (w ∷ ys) x y l m a b =
      ap (λ r. ordering_then r (slice_cmp R xs ys)) (ap₂ R (sym a) (sym b))
  rest_cmp (suc i) (v ∷ xs) (w ∷ ys) x y l m a b =
      rest_cmp i xs ys x y (omega (arith, l)) (omega (arith, m)) a b

  then_kept : (r s : Ordering) → (r ≡ Equal → ⊥) → ordering_then r s ≡ r
  then_kept Less s h = refl
  then_kept Equal s h = absurd (h refl)
  then_kept Greater s h = refl

  -- the elements at the place differ
  pub differ_cmp : (i : ℕ) (xs : List A) (ys : List B) (x : A) (y : B) → i < length xs → i < length ys
      → x ≡ get_or xs i x → y ≡ get_or ys i y → (R x y ≡ Equal → ⊥)
      → slice_cmp R (drop i xs) (drop i ys) ≡ R x y
  differ_cmp i xs ys x y l m a b h = rest_cmp i xs ys x y l m a b ∙ then_kept (R x y) _ h

  pub tied_cmp : (i : ℕ) (xs : List A) (ys : List B) (x : A) (y : B) → i < length xs → i < length ys
      → x ≡ get_or xs i x → y ≡ get_or ys i y → R x y ≡ Equal
      → slice_cmp R (drop (suc i) xs) (drop (suc i) ys) ≡ slice_cmp R (drop i xs) (drop i ys)
  tied_cmp i xs ys x y l m a b h =
      sym (rest_cmp i xs ys x y l m a b
      ∙ ap (λ r. ordering_then r (slice_cmp R (drop (suc i) xs) (drop (suc i) ys))) h)

  -- one of the lists ends before the place
  pub longer_cmp : (i : ℕ) (xs : List A) (ys : List B) → i < length xs → length ys ≤ i
      → slice_cmp R (drop i xs) (drop i ys) ≡ Greater
  longer_cmp i [] ys l m = absurd (omega (arith, l))
  longer_cmp zero (x ∷ xs) [] l m = refl
  longer_cmp zero (x ∷ xs) (y ∷ ys) l m = absurd (omega (arith, m))
  longer_cmp (suc i) (x ∷ xs) [] l m = longer_nil i xs (omega (arith, l))
    where
      longer_nil : (i : ℕ) (xs : List A) → i < length xs → slice_cmp R (drop i xs) [] ≡ Greater
      longer_nil i [] l = absurd (omega (arith, l))
      longer_nil zero (x ∷ xs) l = refl
      longer_nil (suc i) (x ∷ xs) l = longer_nil i xs (omega (arith, l))
  longer_cmp (suc i) (x ∷ xs) (y ∷ ys) l m = longer_cmp i xs ys (omega (arith, l)) (omega (arith, m))

  pub shorter_cmp : (i : ℕ) (xs : List A) (ys : List B) → length xs ≤ i → i < length ys
      → slice_cmp R (drop i xs) (drop i ys) ≡ Less
  shorter_cmp i xs [] l m = absurd (omega (arith, m))
  shorter_cmp zero [] (y ∷ ys) l m = refl
  shorter_cmp zero (x ∷ xs) (y ∷ ys) l m = absurd (omega (arith, l))
  shorter_cmp (suc i) [] (y ∷ ys) l m = shorter_nil i ys (omega (arith, m))
    where
      shorter_nil : (i : ℕ) (ys : List B) → i < length ys → slice_cmp R [] (drop i ys) ≡ Less
      shorter_nil i [] l = absurd (omega (arith, l))
      shorter_nil zero (y ∷ ys) l = refl
      shorter_nil (suc i) (y ∷ ys) l = shorter_nil i ys (omega (arith, l))
  shorter_cmp (suc i) (x ∷ xs) (y ∷ ys) l m = shorter_cmp i xs ys (omega (arith, l)) (omega (arith, m))

  pub ended_cmp : (i : ℕ) (xs : List A) (ys : List B) → length xs ≤ i → length ys ≤ i
      → slice_cmp R (drop i xs) (drop i ys) ≡ Equal
  ended_cmp i xs ys l m = rw (drop_all i xs l, drop_all i ys m) refl

-- items and members as lists
module _ {A B : Type 0} (f : A → Document) (g : B → Document) where
  pub items_listed : (xs : List A) (ys : List B)
      → items_cmp (items_of (map f xs)) (items_of (map g ys)) ≡ slice_cmp (λ x y. document_cmp (f x) (g y)) xs ys
  items_listed [] [] = refl
  items_listed [] (y ∷ ys) = refl
  items_listed (x ∷ xs) [] = refl
  items_listed (x ∷ xs) (y ∷ ys) = ap (ordering_then (document_cmp (f x) (g y))) (items_listed xs ys)

module _ {A B : Type 0} (f : A → List ℕ × Document) (g : B → List ℕ × Document) where
  pub members_listed : (xs : List A) (ys : List B)
      → members_cmp (members_of (map f xs)) (members_of (map g ys)) ≡ slice_cmp (λ x y. named_cmp (f x) (g y)) xs ys
  members_listed [] [] = refl
  members_listed [] (y ∷ ys) = refl
  members_listed (x ∷ xs) [] = refl
  members_listed (x ∷ xs) (y ∷ ys) = ap (ordering_then (named_cmp (f x) (g y))) (members_listed xs ys)
