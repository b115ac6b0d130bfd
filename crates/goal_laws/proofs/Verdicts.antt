-- What the trees of two positions' goal decide: with a branch a document has the first position and not the
-- second, and without one none has.
use Rattle.std.proofs.Common.{◌≡◌, ℕ, true, false, List, [], ◌∷◌, Option, Some, None, IfSome, refl, ap, sym, ◌∙◌}
use Rattle.documents.specs.Document.{Document, kind_of}
use Rattle.positions.specs.Position.{Position}
use Rattle.positions.specs.Holds.{holds, IsTable}
use Rattle.position_laws.specs.Plain.{is_plain}
use Rattle.goals.specs.Signed.{Signed, Plus, Minus}
use Rattle.goals.specs.Goal.{form}
use Rattle.goals.specs.Tree.{steps, branches}
use Rattle.goal_laws.specs.Formed.{meets_goal}
use Rattle.goal_laws.proofs.Forms.{meets-root}
use Rattle.goal_laws.proofs.Saturated.{branches-none_met, branches-some_met}
use Rattle.list_laws.proofs.Booleans.{and_not-parts, and_not-implies}

module _ (T : List Position) (ok : IsTable T) (J : Document) (a b : ℕ) where
  -- where the table has no typed positions, each document of a kind with a branch has the first position and not the
  -- second
  pub branches-separate : is_plain T ≡ true → (g : List Signed) → form T (Plus a ∷ Minus b ∷ []) ≡ Some g
      → (B : List Signed) (Bs : List (List Signed)) → branches (steps T (kind_of J) g) ≡ B ∷ Bs
      → (holds T a J ≡ true) × (holds T b J ≡ false)
  branches-separate plain g e B Bs some =
      and_not-parts (holds T a J) (holds T b J)
      (sym (meets-root T ok J a b)
      ∙ ap (λ o. meets_goal T o J) e
      ∙ branches-some_met T ok plain J (kind_of J) refl g B Bs some)

  -- a document of a kind without a branch has the second position where it has the first
  pub branches-include : IfSome (form T (Plus a ∷ Minus b ∷ [])) (λ g. branches (steps T (kind_of J) g) ≡ [])
      → holds T a J ≡ true → holds T b J ≡ true
  branches-include closed =
      and_not-implies (holds T a J) (holds T b J)
      (sym (meets-root T ok J a b) ∙ go (form T (Plus a ∷ Minus b ∷ [])) closed) where
        go : (o : Option (List Signed)) → IfSome o (λ g. branches (steps T (kind_of J) g) ≡ [])
            → meets_goal T o J ≡ false
        go None closed = refl
        go (Some g) closed = branches-none_met T ok J (kind_of J) refl g closed
