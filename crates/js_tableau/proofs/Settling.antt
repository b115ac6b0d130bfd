-- The least member without a choice is the first of the waiting ones that has none.
use Rattle.std.proofs.Common.{◌≡◌, ⊎_elim, Bool, true, false, ◌&&◌, ◌||◌, cond, not, List, [], ◌∷◌, ◌++◌, map, Some, None, refl, arith, ap, sym, ◌∙◌, subst}
use Rattle.std.proofs.lemmas.Bool.{true≢false, or_cases, or_left, or_right, and_parts, and_from, not_from_true}
use Rattle.documents.specs.Tests.{every}
use Rattle.documents.specs.Kind.{Kind}
use Rattle.positions.specs.Position.{Position}
use Rattle.list_laws.proofs.Elements.{every-append}
use Rattle.goal_laws.proofs.Signs.{every-has, same_signed-itself}
use Rattle.goals.specs.Signed as G
use Rattle.goals.specs.Signed.{has, same_signed, comes_before}
use Rattle.goals.specs.Choices.{choices}
use Rattle.goals.specs.Tree.{has_choice}
use Rattle.js_algebra.specs.View.{signed_view, is_in_table, are_in_table}
use Rattle.js_algebra.specs.declared.signed.Signed.{Signed}
use Rattle.js_algebra.proofs.Orders.{same_eq}
use Rattle.js_algebra.proofs.Sets.{has_after}
use Rattle.js_tableau.specs.Walks.{Covers, are_settled, are_settled_but, IsLeast}

-- a member of a set in the table is in the table
pub member_in_table : (P : List Position) (xs : List G.Signed) (x : G.Signed) → are_in_table P xs ≡ true
    → has x xs ≡ true → is_in_table P x ≡ true
member_in_table P xs x e h = every-has (is_in_table P) xs x e h

map-append : (ys : List Signed) (x : Signed) → map signed_view (ys ++ x ∷ []) ≡ map signed_view ys ++ signed_view x ∷ []
map-append [] x = refl
map-append (y ∷ ys) x = ap (λ zs. signed_view y ∷ zs) (map-append ys x)

module _ (P : List Position) (t : Kind) (xs ws : List G.Signed) (ys : List Signed)
    (covers : Covers xs ws (map signed_view ys))
    (settled : are_settled P t xs (map signed_view ys) ≡ true) where
  abbrev lacks_choice : G.Signed → Bool
  lacks_choice y = not (has_choice xs (choices P t y))

  settled_chooses : (y : G.Signed) → has y (map signed_view ys) ≡ true → lacks_choice y ≡ false
  settled_chooses y h = not_from_true _ (every-has (λ z. has_choice xs (choices P t z))
      (map signed_view ys) y settled h)

  pub found_least : (x : Signed) (vs : List G.Signed) → ws ≡ signed_view x ∷ vs
      → every (comes_before (signed_view x)) vs ≡ true
      → true ≡ (has (signed_view x) xs && lacks_choice (signed_view x)) → IsLeast lacks_choice xs (Some (signed_view x))
  found_least x vs e up b =
      let (m, l) = and_parts (has (signed_view x) xs) (lacks_choice (signed_view x)) (sym b) in (
        m,
        l,
        λ y i k. ⊎_elim
            (λ w. ⊎_elim (λ s. omega (arith, same_eq y (signed_view x) s))
            (λ j. omega (arith, has_after y (signed_view x) vs up j))
            (or_cases (same_signed y (signed_view x)) (has y vs) (subst (λ us. has y us ≡ true) e w)))
            (λ h. absurd (true≢false (sym k ∙ settled_chooses y h)))
            (or_cases (has y ws) (has y (map signed_view ys)) (covers y i)),
      )

  pub none_least : ws ≡ [] → IsLeast lacks_choice xs None
  none_least e y i =
      ⊎_elim (λ w. absurd (true≢false (sym (subst (λ us. has y us ≡ true) e w)))) (λ h. settled_chooses y h)
      (or_cases (has y ws) (has y (map signed_view ys)) (covers y i))

  pub noted : (x : Signed) (zs : List Signed) → zs ≡ cond (has (signed_view x) xs) (ys ++ x ∷ []) ys
      → true ≡ (has (signed_view x) xs && lacks_choice (signed_view x))
      → are_settled_but P t xs (signed_view x) (map signed_view zs) ≡ true
  noted x zs e b =
      let m = (and_parts (has (signed_view x) xs) (lacks_choice (signed_view x)) (sym b)).0 in
      let f : zs ≡ ys ++ x ∷ [] = e ∙ ap (λ s. cond s (ys ++ x ∷ []) ys) m in
      subst (λ us. are_settled_but P t xs (signed_view x) us ≡ true) (sym (ap (map signed_view) f ∙ map-append ys x))
      (every-append (λ y. has_choice xs (choices P t y) || same_signed y (signed_view x)) (map signed_view ys)
      (signed_view x ∷ [])
      ∙ and_from _ _ (weaker (map signed_view ys) settled)
      (and_from _ _
      (or_right (has_choice xs (choices P t (signed_view x))) _ (same_signed-itself (signed_view x))) refl))
    where
      weaker : (us : List G.Signed) → are_settled P t xs us ≡ true → are_settled_but P t xs (signed_view x) us ≡ true
      weaker [] h = refl
      weaker (u ∷ us) h =
          let (a, r) = and_parts (has_choice xs (choices P t u)) (are_settled P t xs us) h in
          and_from _ _ (or_left _ (same_signed u (signed_view x)) a) (weaker us r)
