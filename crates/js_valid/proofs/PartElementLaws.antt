-- Tests of the documents of a list's parts, one after another.
use Rattle.std.proofs.Common.{◌≡◌, ℕ, zero, suc, ◌+◌, ◌<◌, ◌≤◌, List, [], ◌∷◌, map, drop, length, get_or, Bool, true, false, ◌&&◌, not, Option, Some, None, refl, sym, ap, ap₂, ◌∙◌, arith}
use Rattle.std.proofs.lemmas.List.{drop_all}
use Rattle.documents.specs.Tests.{every}
use Rattle.documents.specs.Document.{Document}
use Rattle.shared_documents.specs.Part.{Part}
use Rattle.shared_documents.specs.Unshared.{unshared}
use Rattle.js_doc.specs.declared.parts.PartId.{PartId}
use Rattle.js_doc.specs.PartMembers.{number_of}
use Rattle.js_valid.proofs.SamePartLaws.{map-twice}
use Rattle.schemas.specs.Entry.{Form, Always, Never, Ref, Asks}
use Rattle.schemas.specs.Schema.{lists, meets, one}
use Rattle.js_valid.specs.Parts.{of_contains, of_element}
use Rattle.js_valid.specs.Requests.{contained, each_at, parts_list}
use Rattle.js_valid.proofs.DecideLaws.{list-done}

module _ {A : Type 0} (f : A → Document) where
  pub every-here : (p : Document → Bool) (i : ℕ) (xs : List A) (x : A) → i < length xs → x ≡ get_or xs i x
      → every p (map f (drop i xs)) ≡ (p (f x) && every p (map f (drop (i + 1) xs)))
  every-here p i [] x l at = absurd (omega (arith, l))
  every-here p zero (y ∷ ys) x l at = ap (λ z. p (f z) && every p (map f ys)) (sym at)
  every-here p (suc i) (y ∷ ys) x l at =
      let one : suc i + 1 ≡ suc (i + 1) = omega arith in
      rw one (every-here p i ys x (omega (arith, l)) at)

  pub every-past : (p : Document → Bool) (i : ℕ) (xs : List A) → length xs ≤ i → every p (map f (drop i xs)) ≡ true
  every-past p i xs l = ap (λ ys. every p (map f ys)) (drop_all i xs l)

  pub each-here : (t : ℕ → Document → Bool) (k i : ℕ) (xs : List A) (x : A) → i < length xs → x ≡ get_or xs i x
      → each_at t k (map f (drop i xs)) ≡ (t k (f x) && each_at t (suc k) (map f (drop (i + 1) xs)))
  each-here t k i [] x l at = absurd (omega (arith, l))
  each-here t k zero (y ∷ ys) x l at = ap (λ z. t k (f z) && each_at t (suc k) (map f ys)) (sym at)
  each-here t k (suc i) (y ∷ ys) x l at =
      let one : suc i + 1 ≡ suc (i + 1) = omega arith in
      rw one (each-here t k i ys x (omega (arith, l)) at)

  pub each-past : (t : ℕ → Document → Bool) (k i : ℕ) (xs : List A) → length xs ≤ i
      → each_at t k (map f (drop i xs)) ≡ true
  each-past t k i xs l = ap (λ ys. each_at t k (map f ys)) (drop_all i xs l)

-- the documents of a list's parts
abbrev pub document_at : List Part → PartId → Document
document_at ps i = unshared ps i.0

pub documents-are : (ps : List Part) (ids : List PartId) (numbers : List ℕ) → map number_of ids ≡ numbers
    → map (unshared ps) numbers ≡ map (document_at ps) ids
documents-are ps ids numbers e = ap (map (unshared ps)) (sym e) ∙ map-twice (unshared ps) number_of ids

-- ---- elements, and one that `contains` requires

module _ (below : ℕ → Document → Bool) (ds : List Document) where
  one-contained : (o : Option ℕ) → meets (λ q. not (every (λ d. every (λ r. not (below r d)) (lists one o)) ds)) o
      ≡ meets (λ q. not (every (λ d. not (below q d)) ds)) o
  one-contained None = refl
  one-contained (Some q) = ap not (alike ds)
    where
      and_true : (a : Bool) → (a && true) ≡ a
      and_true true = refl
      and_true false = refl

      alike : (ds : List Document) → every (λ d. not (below q d) && true) ds ≡ every (λ d. not (below q d)) ds
      alike [] = refl
      alike (d ∷ ds) = ap₂ (λ a b. a && b) (and_true (not (below q d))) (alike ds)

  contained-same : (f : Form)
      → meets (λ q. not (every (λ d. every (λ r. not (below r d)) (of_contains f)) ds)) (contained f)
      ≡ meets (λ q. not (every (λ d. not (below q d)) ds)) (contained f)
  contained-same Always = refl
  contained-same Never = refl
  contained-same (Ref e) = refl
  contained-same (Asks k) = one-contained k.contains

  -- the two answers for the elements, place by place and by `contains`, are the form's answer for a list
  pub elements-done : (f : Form) (a b : Bool) → a ≡ each_at (λ i d. every (λ q. below q d) (of_element f i)) 0 ds
      → b ≡ meets (λ q. not (every (λ d. not (below q d)) ds)) (contained f) → (a && b) ≡ parts_list below f ds
  elements-done f a b h k =
      ap (λ c. a && c) (k ∙ sym (contained-same f))
      ∙ list-done below f ds a (every (λ d. every (λ r. not (below r d)) (of_contains f)) ds) h refl
