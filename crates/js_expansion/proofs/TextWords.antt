-- The word of an alternative that is a text may be requested: its branch is named, and has a first cell with a word.
use Rattle.std.proofs.Common.{◌≡◌, ℕ, ◌<◌, ◌≤◌, true, ◌&&◌, nat_eq, List, [], ◌∷◌, map, length, get_or, refl, ap, ◌∙◌, subst, arith}
use Rattle.std.proofs.lemmas.Bool.{and_parts, and_from, eq-eqb, ltb-true}
use Rattle.documents.specs.Tests.{every}
use Rattle.documents.specs.Kind as K
use Rattle.documents.specs.Kind.{Kind, same_kind}
use Rattle.list_laws.specs.In.{IsIn}
use Rattle.list_laws.proofs.Lists.{every_at, in_map, get_or-in}
use Rattle.list_laws.proofs.Tests.{some_from}
use Rattle.alternatives.specs.Alternative as A
use Rattle.alternatives.specs.Slots.{capacity, cell_at, has_room, has_text, has_words}
use Rattle.alternatives.specs.Expansion.{Expansion, names_branch}
use Rattle.js_expansion.specs.AlternativeView.{alternative_view}
use Rattle.js_expansion.specs.View.{shape_view}
use Rattle.js_expansion.specs.declared.alternative.Alternative.{Alternative}
use Rattle.js_expansion.specs.declared.alternative.Shape.TheVariants as H
use Rattle.std.proofs.lemmas.List.{get_or_default}
use Rattle.position_laws.proofs.SameKind.{same_kind-refl}

filled : (cells : List (List (List ℕ))) → 0 < capacity (cell_at cells 0) → 0 < length cells
filled [] l = absurd (omega (arith, l))
filled (c ∷ cells) l = omega arith

module _ (ex : Expansion) (xs : List Alternative) (all : map alternative_view xs ≡ ex.alternatives) (i : ℕ)
    (d : Alternative) (within : i < length xs) where
  abbrev chosen : A.Alternative
  chosen = alternative_view (get_or xs i d)

  is_in : IsIn chosen ex.alternatives
  is_in = subst (IsIn chosen) all (in_map alternative_view (get_or xs i d) xs (get_or-in xs i d within))

  pub names : names_branch ex chosen.kind chosen.branch ≡ true
  names =
      some_from (λ a. same_kind chosen.kind a.kind && nat_eq chosen.branch a.branch) chosen ex.alternatives is_in
      (and_from (same_kind chosen.kind chosen.kind) (nat_eq chosen.branch chosen.branch) (same_kind-refl chosen.kind)
      (eq-eqb chosen.branch chosen.branch refl))

  module _ (cells : Kind → ℕ → List (List (List ℕ)))
      (named : every (λ a. has_words (cells a.kind a.branch) a) ex.alternatives ≡ true) (e : Alternative)
      (text : (get_or xs i e).shape ≡ H.Text) where
    abbrev own : List (List (List ℕ))
    own = cells chosen.kind chosen.branch

    -- the first cell of a listed text's branch has a word
    pub one : 1 ≤ capacity (cell_at own 0)
    one =
        let has : has_words own chosen ≡ true =
        every_at (λ a. has_words (cells a.kind a.branch) a) chosen ex.alternatives named is_in in
        let (front, fillers) =
        and_parts (has_text own chosen.shape && every (λ m. has_room own m.slot 1) chosen.members)
        (every (λ f. has_room own f.slot f.room) chosen.fillers) has in
        let (first, members) =
        and_parts (has_text own chosen.shape) (every (λ m. has_room own m.slot 1) chosen.members) front in
        let is : (get_or xs i d).shape ≡ H.Text = ap (λ a. a.shape) (get_or_default xs i d e within) ∙ text in
        ltb-true 0 (capacity (cell_at own 0)) (subst (λ s. has_text own (shape_view s) ≡ true) is first)

    pub there : 0 < length own
    there = filled own one
