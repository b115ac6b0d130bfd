-- The branches of a tree: what they are, what they mean, how they are numbered, and that they are no more than its
-- ends.
use Rattle.std.proofs.Common.{◌≡◌, ℕ, suc, ◌+◌, ◌≤◌, ⊎_elim, true, List, [], ◌∷◌, ◌++◌, length, refl, arith, ap, sym, ◌∙◌, subst}
use Rattle.std.specs.List.{AllByRecursion}
use Rattle.documents.specs.Tests.{some}
use Rattle.documents.specs.Kind.{Kind}
use Rattle.documents.specs.Document.{Document, kind_of}
use Rattle.positions.specs.Position.{Position, is_table}
use Rattle.positions.specs.Holds.{IsTable}
use Rattle.list_laws.proofs.Elements.{all-weaker, all-flat_map}
use Rattle.position_laws.proofs.Tables.{is_table-IsTable}
use Rattle.goals.specs.Signed.{Signed, add_all, is_rising, meets}
use Rattle.goals.specs.Goal.{contains}
use Rattle.goals.specs.Tree.{Step, Clash, Wrong, Rule, Saturated, steps, steps_from, ends, branches}
use Rattle.goal_laws.specs.Saturated.{IsSaturated}
use Rattle.goal_laws.proofs.Branches.{meets-branches, branches-are, branches-flat_map}
use Rattle.goal_laws.proofs.Steps.{Told, EachChoice, steps-induction}
use Rattle.js_algebra.specs.View.{are_in_table}
use Rattle.js_algebra.specs.declared.node.JsonKind.{JsonKind}
use Rattle.js_tableau.specs.Branches.{AreNumbered, AreBranches}
use Rattle.js_tableau.specs.declared.branch_list.Branch.{Branch}
use Rattle.js_tableau.proofs.Unfolded.{some_or_none}
use Rattle.goal_laws.proofs.Signs.{is_rising-add_all}

-- a table with a position

module _ (T : List Position) (ok : IsTable T) (t : Kind) where
  abbrev Rises : List Signed → List Step → Type 0
  Rises S ss = is_rising S ≡ true → AllByRecursion (λ B. is_rising B ≡ true) (branches ss)

  rises-up : (S : List Signed) (s : Step) → Told T t S s → EachChoice T ok t (λ S'. Rises S' (steps T t S')) S s
      → Rises S (steps_from (steps T t) S s)
  rises-up S (Clash p) told h r = tt
  rises-up S (Wrong x) told h r = tt
  rises-up S (Saturated B) (e, full) h r = (subst (λ S'. is_rising S' ≡ true) (sym e) r, tt)
  rises-up S (Rule x cs) told h r =
      subst (AllByRecursion (λ B. is_rising B ≡ true)) (sym (branches-flat_map (λ C. steps T t (add_all C S)) cs))
      (all-flat_map _ (λ C. branches (steps T t (add_all C S))) cs
      (all-weaker _ _ cs (λ C k. k (is_rising-add_all C S r)) h))

  all_rise : (S : List Signed) → Rises S (steps T t S)
  all_rise S = steps-induction T ok t Rises rises-up S

  both : (g : List Signed) (Bs : List (List Signed)) → AllByRecursion (λ B. is_rising B ≡ true) Bs
      → AllByRecursion (λ B. IsSaturated T t B × (contains B g ≡ true)) Bs → AreBranches T t g Bs
  both g [] r h = tt
  both g (B ∷ Bs) r h = (
    record { rising = r.0; saturated = h.0.0; has_goal = h.0.1 },
    both g Bs r.1 h.1,
  )

-- a table without positions has the empty set alone

empty_meets : (t : Kind) (J : Document) → meets [] [] J ≡ some (λ S. meets [] S J) (branches (steps [] t []))
unfolding steps
empty_meets t J = refl

empty_branches : (t : Kind) → branches (steps [] t []) ≡ [] ∷ []
unfolding steps
empty_branches t = refl

empty_are : (t : Kind) → AreBranches [] t [] (branches (steps [] t []))
empty_are t = subst (AreBranches [] t []) (sym (empty_branches t)) (
  record {
    rising = refl;
    saturated = record { no_clash = λ x i. cc; none_wrong = λ x i. cc; chosen = λ x i. cc };
    has_goal = refl;
  },
  tt,
)

module _ (P : List Position) (ranks : List ℕ) (table : is_table P ranks ≡ true) (t : Kind) (g : List Signed)
    (inside : are_in_table P g ≡ true) where
  pub meets-sets : (J : Document) → kind_of J ≡ t
      → meets P g J ≡ some (λ S. meets P S J) (branches (steps P t g))
  meets-sets D k =
      ⊎_elim
      (λ l. meets-branches P (is_table-IsTable P ranks table l) D g
      ∙ ap (λ u. some (λ S. meets P S D) (branches (steps P u g))) k)
      (λ n. subst (λ T. meets T g D ≡ some (λ S. meets T S D) (branches (steps T t g))) (sym n.0)
      (subst (λ S. meets [] S D ≡ some (λ B. meets [] B D) (branches (steps [] t S))) (sym n.1) (empty_meets t D)))
      (some_or_none P t ranks table P g inside)

  pub are_branches : is_rising g ≡ true → AreBranches P t g (branches (steps P t g))
  are_branches r =
      ⊎_elim
      (λ l. let ok = is_table-IsTable P ranks table l in
      both P ok t g (branches (steps P t g)) (all_rise P ok t g r) (branches-are P ok t g))
      (λ n. subst (λ T. AreBranches T t g (branches (steps T t g))) (sym n.0)
      (subst (λ S. AreBranches [] t S (branches (steps [] t S))) (sym n.1) (empty_are t)))
      (some_or_none P t ranks table P g inside)

-- one more branch

pub numbered-more : (k : JsonKind) (n : ℕ) (bs : List Branch) (b : Branch) → b.id.kind ≡ k
    → b.id.number ≡ n + length bs → AreNumbered k n bs → AreNumbered k n (bs ++ b ∷ [])
numbered-more k n [] b e f h = (e, omega (arith, f), tt)
numbered-more k n (c ∷ bs) b e f h = (h.0, h.1, numbered-more k (suc n) bs b e (omega (arith, f)) h.2)

-- there are no more branches than ends
pub branches_few : (ss : List Step) → length (branches ss) ≤ ends ss
branches_few [] = omega arith
branches_few (Clash p ∷ ss) = omega (arith, branches_few ss)
branches_few (Wrong x ∷ ss) = omega (arith, branches_few ss)
branches_few (Rule x [] ∷ ss) = omega (arith, branches_few ss)
branches_few (Rule x (C ∷ cs) ∷ ss) = branches_few ss
branches_few (Saturated S ∷ ss) = omega (arith, branches_few ss)
