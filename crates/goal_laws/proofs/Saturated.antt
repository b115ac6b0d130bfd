-- In a saturated set all is met where its literals are. In a table without typed positions these name kinds alone, so
-- there a set with a branch is met by each document of the kind.
use Rattle.std.proofs.Common.{◌≡◌, ℕ, zero, suc, ◌<◌, Bool, true, false, List, [], ◌∷◌, Option, Some, None, IfSome, refl, ap, sym, ◌∙◌, subst, arith}
use Rattle.std.specs.List.{AllByRecursion}
use Rattle.std.proofs.lemmas.Bool.{not-false, not_from_false, or_left}
use Rattle.documents.specs.Tests.{every, some}
use Rattle.documents.specs.Kind.{Kind, same_kind}
use Rattle.documents.specs.Document.{Document, kind_of}
use Rattle.positions.specs.Position.{Position, Types, position_at}
use Rattle.positions.specs.Holds.{asks, holds, IsTable}
use Rattle.position_laws.specs.Plain.{is_untyped, is_plain}
use Rattle.position_laws.proofs.Plainness.{is_plain-untyped}
use Rattle.list_laws.proofs.Elements.{all-at, some-element, contains-some}
use Rattle.position_laws.proofs.Asks.{holds-asks}
use Rattle.goals.specs.Signed.{Signed, Plus, Minus, position_of, has, met, meets}
use Rattle.goals.specs.Choices.{plus_choices, minus_choices, choices, plus_wrong, minus_wrong, is_wrong}
use Rattle.goals.specs.Goal.{contains}
use Rattle.goals.specs.Tree.{has_choice, steps, branches}
use Rattle.goal_laws.specs.Saturated.{IsSaturated}
use Rattle.goal_laws.proofs.Signs.{has-every, every-has, all-has}
use Rattle.goal_laws.proofs.Rules.{AreNames, choices-names, choices-met}
use Rattle.goal_laws.proofs.Branches.{meets-branches, branches-are}

module _ (T : List Position) (ok : IsTable T) (J : Document) (S : List Signed)
    (literals : (x : Signed) → has x S ≡ true → choices T (kind_of J) x ≡ None
    → met (λ p. holds T p J) x ≡ true)
    (chosen : (x : Signed) → has x S ≡ true → has_choice S (choices T (kind_of J) x) ≡ true) where
  -- by the choice that is in the set, whose positions have lesser ranks
  all_met : (n : ℕ) (x : Signed) → ok.rank (position_of x) < n → has x S ≡ true
      → met (λ p. holds T p J) x ≡ true
  all_met zero x l i = absurd (omega arith)
  all_met (suc n) x l i =
      go (choices T (kind_of J) x) refl (chosen x i) (choices-met T ok J x)
      (choices-names (λ q. ok.rank q < ok.rank (position_of x)) (kind_of J) T x
      (ok.ranked.falls (position_of x)))
      (λ y k j. all_met n y (omega arith) j) where
        go : (o : Option (List (List Signed))) → choices T (kind_of J) x ≡ o → has_choice S o ≡ true
            → IfSome o (λ cs. some (λ C. meets T C J) cs ≡ met (λ p. holds T p J) x)
            → IfSome o (AreNames (λ q. ok.rank q < ok.rank (position_of x)) (kind_of J))
            → ((y : Signed) → ok.rank (position_of y) < ok.rank (position_of x) → has y S ≡ true
            → met (λ p. holds T p J) y ≡ true)
            → met (λ p. holds T p J) x ≡ true
        go None e c exact names more = literals x i e
        go (Some cs) e c exact names more =
            let (C, k, h) = some-element (λ C. every (λ y. has y S) C) cs c in
            let lower = all-at _ cs C names k in
            sym exact
            ∙ contains-some (λ C. meets T C J) cs C k
            (has-every (met (λ p. holds T p J)) C
            (λ y j. more y (all-has _ C y lower j) (every-has (λ y. has y S) C y h j)))

  -- a document of the kind that meets the literals of a saturated set meets all of it
  pub meets-saturated : meets T S J ≡ true
  meets-saturated =
      has-every (met (λ p. holds T p J)) S (λ x i. all_met (suc (ok.rank (position_of x))) x (omega arith) i)

-- an untyped literal that isn't wrong at the document's kind is met: it requires a kind alone
module _ (here : ℕ → Bool) (below : ℕ → Document → Bool) where
  plus_literal : (P : Position) (J : Document) → is_untyped P ≡ true → plus_choices (kind_of J) P ≡ None
      → plus_wrong (kind_of J) P ≡ false
      → asks here below P J ≡ true
  plus_literal (Types ts) J u e w = not-false (some (same_kind (kind_of J)) ts) w
  plus_literal _ J u e w = cc

  minus_literal : (P : Position) (J : Document) → is_untyped P ≡ true → minus_choices (kind_of J) P ≡ None
      → minus_wrong (kind_of J) P ≡ false
      → asks here below P J ≡ false
  minus_literal (Types ts) J u e w = w
  minus_literal _ J u e w = cc

module _ (T : List Position) (ok : IsTable T) (plain : is_plain T ≡ true) (J : Document) where
  literal-met : (x : Signed) → choices T (kind_of J) x ≡ None → is_wrong T (kind_of J) x ≡ false
      → met (λ p. holds T p J) x ≡ true
  literal-met (Plus p) e w =
      holds-asks T ok p J
      ∙ plus_literal (λ q. holds T q J) (holds T) (position_at T p) J (is_plain-untyped T plain p) e w
  literal-met (Minus p) e w =
      not_from_false _
      (holds-asks T ok p J
      ∙ minus_literal (λ q. holds T q J) (holds T) (position_at T p) J (is_plain-untyped T plain p) e w)

  is_saturated-met : (S : List Signed) → IsSaturated T (kind_of J) S → meets T S J ≡ true
  is_saturated-met S full =
      meets-saturated T ok J S (λ x i e. literal-met x e (full.none_wrong x i)) full.chosen

-- what the branches of a tree say of every document of its kind
module _ (T : List Position) (ok : IsTable T) (J : Document) (t : Kind) (of_kind : kind_of J ≡ t) where
  pub branches-none_met : (S : List Signed) → branches (steps T t S) ≡ [] → meets T S J ≡ false
  branches-none_met S e =
      meets-branches T ok J S
      ∙ ap (some (λ B. meets T B J)) (ap (λ u. branches (steps T u S)) of_kind ∙ e)

-- in a plain table
module _ (T : List Position) (ok : IsTable T) (plain : is_plain T ≡ true) (J : Document) (t : Kind)
    (of_kind : kind_of J ≡ t) where
  pub IsSaturated-met : (S : List Signed) → IsSaturated T t S → meets T S J ≡ true
  IsSaturated-met S full = is_saturated-met T ok plain J S (subst (λ u. IsSaturated T u S) (sym of_kind) full)

  pub branches-some_met : (S B : List Signed) (Bs : List (List Signed)) → branches (steps T t S) ≡ B ∷ Bs
      → meets T S J ≡ true
  branches-some_met S B Bs e =
      let first =
      subst (AllByRecursion (λ C. IsSaturated T t C × (contains C S ≡ true))) e (branches-are T ok t S) in
      meets-branches T ok J S
      ∙ ap (some (λ C. meets T C J)) (ap (λ u. branches (steps T u S)) of_kind ∙ e)
      ∙ or_left (meets T B J) _ (IsSaturated-met B first.0.0)
