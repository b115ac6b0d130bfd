-- Words and pointers are equal exactly where the tests say so.
use Rattle.std.proofs.Common.{◌≡◌, [], ◌∷◌, Bool, true, false, refl, sym, subst, ap, ap₂, ◌∙◌, true≢false}
use Rattle.std.proofs.lemmas.Bool.{and_parts, and_from}
use Rattle.std.specs.Cmp.{IsEquivalence}
use Rattle.documents.specs.Tests.{same_word}
use Rattle.schemas.specs.Places.{Pointer, same_pointer}
use Rattle.list_laws.proofs.Tests.{same_word-refl, same_word-true}

pub same_pointer-refl : (p : Pointer) → same_pointer p p ≡ true
same_pointer-refl [] = refl
same_pointer-refl (t ∷ p) = and_from (same_word t t) (same_pointer p p) (same_word-refl t) (same_pointer-refl p)

-- pointers that pass the test are equal
pub same_pointer-eq : (p q : Pointer) → same_pointer p q ≡ true → p ≡ q
same_pointer-eq [] [] h = refl
same_pointer-eq [] (u ∷ q) h = absurd (true≢false (sym h))
same_pointer-eq (t ∷ p) [] h = absurd (true≢false (sym h))
same_pointer-eq (t ∷ p) (u ∷ q) h =
    let both = and_parts (same_word t u) (same_pointer p q) h in
    ap₂ (λ x y. x ∷ y) (same_word-true t u both.0) (same_pointer-eq p q both.1)

-- a test that says exactly what is equal
module _ {K : Type 0} (same : K → K → Bool)
    (is : (x : K) → same x x ≡ true) (eq : (x y : K) → same x y ≡ true → x ≡ y) where
  symmetric : (x y : K) (a b : Bool) → same x y ≡ a → same y x ≡ b → a ≡ b
  symmetric x y true b h k = sym (subst (λ z. same z x ≡ true) (eq x y h) (is x)) ∙ k
  symmetric x y false true h k = absurd (true≢false (sym (subst (λ z. same z y ≡ true) (eq y x k) (is y)) ∙ h))
  symmetric x y false false h k = refl

  pub equivalence : IsEquivalence same
  equivalence = record {
    refl = is;
    symm = λ x y. symmetric x y (same x y) (same y x) refl refl;
    congr = λ x y z h. ap (λ u. same u z) (eq x y h);
  }

pub same_pointer-equivalence : IsEquivalence same_pointer
same_pointer-equivalence = equivalence same_pointer same_pointer-refl same_pointer-eq
