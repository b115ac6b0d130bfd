-- A document meets a set exactly where it meets one of the branches of the set's tree at the document's kind.
use Rattle.std.proofs.Common.{◌≡◌, Bool, true, false, ◌&&◌, ◌||◌, List, [], ◌∷◌, ◌++◌, flat_map, Some, IfSome, refl, ap, sym, ◌∙◌, subst}
use Rattle.std.specs.List.{AllByRecursion}
use Rattle.std.proofs.Math.Bool.{and-false, or-false, and-or_distrib_right}
use Rattle.std.proofs.lemmas.Bool.{and_parts, and_from}
use Rattle.documents.specs.Tests.{some}
use Rattle.documents.specs.Kind.{Kind}
use Rattle.documents.specs.Document.{Document, kind_of}
use Rattle.positions.specs.Position.{Position}
use Rattle.positions.specs.Holds.{holds, IsTable}
use Rattle.list_laws.proofs.Elements.{all-weaker, all-everywhere, all-flat_map, some-same, some-flat_map}
use Rattle.goals.specs.Signed.{Signed, Plus, has, add_all, met, meets}
use Rattle.goals.specs.Choices.{choices}
use Rattle.goals.specs.Goal.{contains}
use Rattle.goals.specs.Tree.{Step, Clash, Wrong, Rule, Saturated, steps_from, steps, branches}
use Rattle.goal_laws.specs.Saturated.{IsSaturated}
use Rattle.goal_laws.proofs.Signs.{has-every, every-has, every-add_all}
use Rattle.goal_laws.proofs.Rules.{choices-met, meets-clash, meets-wrong}
use Rattle.goal_laws.proofs.Steps.{Told, EachChoice, steps-induction}

-- the branches of joined steps

pub branches-append : (xs ys : List Step) → branches (xs ++ ys) ≡ branches xs ++ branches ys
branches-append [] ys = refl
branches-append (Clash p ∷ xs) ys = branches-append xs ys
branches-append (Wrong x ∷ xs) ys = branches-append xs ys
branches-append (Rule x cs ∷ xs) ys = branches-append xs ys
branches-append (Saturated S ∷ xs) ys = ap (λ Bs. S ∷ Bs) (branches-append xs ys)

pub branches-flat_map : (f : List Signed → List Step) (Cs : List (List Signed))
    → branches (flat_map f Cs) ≡ flat_map (λ C. branches (f C)) Cs
branches-flat_map f [] = refl
branches-flat_map f (C ∷ Cs) =
    branches-append (f C) (flat_map f Cs) ∙ ap (λ Bs. branches (f C) ++ Bs) (branches-flat_map f Cs)

-- what the branches mean

pub meets-add_all : (T : List Position) (C S : List Signed) (J : Document)
    → meets T (add_all C S) J ≡ (meets T C J && meets T S J)
meets-add_all T C S J = every-add_all (met (λ p. holds T p J)) C S

-- a test of the set may be made once for all choices
some-and : {A : Type 0} (p : A → Bool) (b : Bool) (xs : List A) → (some p xs && b) ≡ some (λ x. p x && b) xs
some-and p b [] = refl
some-and p b (x ∷ xs) = and-or_distrib_right (p x) (some p xs) b ∙ ap (λ c. (p x && b) || c) (some-and p b xs)

module _ (T : List Position) (ok : IsTable T) (J : Document) where
  abbrev Agrees : List Signed → List Step → Type 0
  Agrees S ss = meets T S J ≡ some (λ B. meets T B J) (branches ss)

  -- to require a member of the set once more changes nothing
  meets-and : (S : List Signed) (x : Signed) → has x S ≡ true
      → meets T S J ≡ (met (λ p. holds T p J) x && meets T S J)
  meets-and S x i = go (meets T S J) refl where
    go : (b : Bool) → meets T S J ≡ b → b ≡ (met (λ p. holds T p J) x && b)
    go true e = sym (and_from _ true (every-has (met (λ p. holds T p J)) S x e i) refl)
    go false e = sym (and-false (met (λ p. holds T p J) x))

  -- a set is met where one of the choices is met beside it
  pub meets-choices : (S : List Signed) (x : Signed) (cs : List (List Signed)) → has x S ≡ true
      → choices T (kind_of J) x ≡ Some cs → meets T S J ≡ some (λ C. meets T (add_all C S) J) cs
  meets-choices S x cs i e =
      let exact : some (λ C. meets T C J) cs ≡ met (λ p. holds T p J) x =
      subst (λ o. IfSome o (λ ds. some (λ C. meets T C J) ds ≡ met (λ p. holds T p J) x)) e
      (choices-met T ok J x) in
      meets-and S x i
      ∙ ap (λ b. b && meets T S J) (sym exact)
      ∙ some-and (λ C. meets T C J) (meets T S J) cs
      ∙ some-same _ _ cs (all-everywhere _ cs (λ C. sym (meets-add_all T C S J)))

  agrees-up : (S : List Signed) (s : Step) → Told T (kind_of J) S s
      → EachChoice T ok (kind_of J) (λ S'. Agrees S' (steps T (kind_of J) S')) S s
      → Agrees S (steps_from (steps T (kind_of J)) S s)
  agrees-up S (Clash p) (a, b) h = meets-clash T ok J S (Plus p) a b
  agrees-up S (Wrong x) (i, w) h = meets-wrong T ok J S x i w
  agrees-up S (Saturated B) (e, full) h = ap (λ S'. meets T S' J) (sym e) ∙ sym (or-false (meets T B J))
  agrees-up S (Rule x cs) (i, e, new) h =
      meets-choices S x cs i e
      ∙ some-same _ _ cs h
      ∙ sym (some-flat_map (λ B. meets T B J) (λ C. branches (steps T (kind_of J) (add_all C S))) cs)
      ∙ ap (some (λ B. meets T B J)) (sym (branches-flat_map (λ C. steps T (kind_of J) (add_all C S)) cs))

  pub meets-branches : (S : List Signed)
      → meets T S J ≡ some (λ B. meets T B J) (branches (steps T (kind_of J) S))
  meets-branches S = steps-induction T ok (kind_of J) Agrees agrees-up S

-- what the branches are

module _ (T : List Position) (ok : IsTable T) (t : Kind) where
  -- saturated, and with all that the set has
  abbrev pub IsBranch : List Signed → List Signed → Type 0
  IsBranch S B = IsSaturated T t B × (contains B S ≡ true)

  abbrev HasBranches : List Signed → List Step → Type 0
  HasBranches S ss = AllByRecursion (IsBranch S) (branches ss)

  branch-smaller : (C S B : List Signed) → IsBranch (add_all C S) B → IsBranch S B
  branch-smaller C S B (full, e) =
      (full, (and_parts _ _ (sym (every-add_all (λ x. has x B) C S) ∙ e)).1)

  branch-up : (S : List Signed) (s : Step) → Told T t S s
      → EachChoice T ok t (λ S'. HasBranches S' (steps T t S')) S s
      → HasBranches S (steps_from (steps T t) S s)
  branch-up S (Clash p) told h = tt
  branch-up S (Wrong x) told h = tt
  branch-up S (Saturated B) (e, full) h =
      (subst (IsBranch S) (sym e) (full, has-every (λ x. has x S) S (λ x i. i)), tt)
  branch-up S (Rule x cs) told h =
      subst (AllByRecursion (IsBranch S)) (sym (branches-flat_map (λ C. steps T t (add_all C S)) cs))
      (all-flat_map _ (λ C. branches (steps T t (add_all C S))) cs
      (all-weaker _ _ cs (λ C k. all-weaker _ _ _ (λ B b. branch-smaller C S B b) k) h))

  -- each branch of a set is saturated and contains the set
  pub branches-are : (S : List Signed) → AllByRecursion (IsBranch S) (branches (steps T t S))
  branches-are S = steps-induction T ok t HasBranches branch-up S
