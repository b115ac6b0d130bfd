-- Numbers that are listed while what cites them is written: places that were written stay.
use Rattle.std.proofs.Common.{◌≡◌, ℕ, nat_eq, List, [], ◌∷◌, ◌++◌, map, flat_map, refl, ap, ap₂, sym, ◌∙◌, subst}
use Rattle.std.specs.Cmp.{nat_eq_equiv}
use Rattle.std.proofs.lemmas.Bool.{eq-eqb, eqb-true}
use Rattle.std.proofs.lemmas.List.{map-append, flat_map_more}
use Rattle.list_laws.specs.In.{IsIn}
use Rattle.word_states.specs.Mention.{mention_all}
use Rattle.word_laws.proofs.Mentions as M
use Rattle.refutations.specs.Listing.{place_of}

-- what is mentioned is listed
pub mentions_listed : (L js : List ℕ) (j : ℕ) → IsIn j js → IsIn j (mention_all nat_eq L js)
mentions_listed L js j i =
    let (y, x, e) = M.in_has nat_eq nat_eq_equiv j (mention_all nat_eq L js)
    (M.mentions_have nat_eq nat_eq_equiv L js j j i (eq-eqb j j refl)) in
    subst (λ z. IsIn z (mention_all nat_eq L js)) (sym (eqb-true j y e)) x

module _ {A B : Type 0} (cites : A → List ℕ) (rename : (ℕ → ℕ) → A → B)
    (stays : (ks more : List ℕ) (xs : List A) → ((j : ℕ) → IsIn j (flat_map cites xs) → IsIn j ks)
    → map (rename (place_of (ks ++ more))) xs ≡ map (rename (place_of ks)) xs) where
  -- after xs, and then x, K and N are listed
  module _ (L K N : List ℕ) (xs : List A) (x : A) (before : K ≡ mention_all nat_eq L (flat_map cites xs))
      (next : N ≡ mention_all nat_eq K (cites x)) where
    pub listed_more : N ≡ mention_all nat_eq L (flat_map cites (xs ++ x ∷ []))
    listed_more =
        next ∙ ap (λ z. mention_all nat_eq z (cites x)) before
        ∙ sym (M.mentions_append nat_eq nat_eq_equiv L (flat_map cites xs) (cites x))
        ∙ ap (mention_all nat_eq L) (flat_map_more cites [] xs x)

    stay : map (rename (place_of N)) xs ≡ map (rename (place_of K)) xs
    stay =
        let (X, p) = M.mentions_grow nat_eq nat_eq_equiv K (cites x) in
        ap (λ z. map (rename (place_of z)) xs) (next ∙ p)
        ∙ stays K X xs (λ j i. subst (IsIn j) (sym before) (mentions_listed L (flat_map cites xs) j i))

    pub renamed_more : (ys : List B) (y : B) → ys ≡ map (rename (place_of K)) xs → y ≡ rename (place_of N) x
        → ys ++ y ∷ [] ≡ map (rename (place_of N)) (xs ++ x ∷ [])
    renamed_more ys y e f =
        ap₂ (λ zs z. zs ++ z ∷ []) (e ∙ sym stay) f ∙ sym (map-append (rename (place_of N)) xs (x ∷ []))
