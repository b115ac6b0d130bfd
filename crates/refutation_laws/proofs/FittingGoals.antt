-- The lines of a goal without hole are in the grammar, where the table has no more positions than numbers are written.
use Rattle.std.proofs.Common.{◌≡◌, ℕ, suc, ◌+◌, ◌<◌, ◌≤◌, inl, inr, true, nat_lt, List, [], ◌∷◌, ◌++◌, flat_map, length, Option, Some, None, IfSome, refl, sym, ◌∙◌, subst, arith}
use Rattle.std.proofs.lemmas.Bool.{and_from, and_parts, ltb-true, lt-ltb, true≢false}
use Rattle.std.specs.List.{AllByRecursion}
use Rattle.documents.specs.Kind.{Kind, all_kinds}
use Rattle.documents.specs.Tests.{every}
use Rattle.positions.specs.Position.{Position}
use Rattle.positions.specs.Holds.{IsTable}
use Rattle.list_laws.proofs.Elements.{all-weaker, all-every}
use Rattle.goals.specs.Signed.{Signed, Plus, position_of, opposite, has, comes_before, is_rising, add_all}
use Rattle.goals.specs.Choices.{choices}
use Rattle.goals.specs.Tree.{Step, Clash, Wrong, Rule, Saturated, steps_from, steps, branches}
use Rattle.goal_laws.specs.Saturated.{IsSaturated}
use Rattle.goal_laws.proofs.Signs.{every-has, every-add_all, is_rising-add_all, comes_before-lt}
use Rattle.goal_laws.proofs.Rules.{AreNames, choices-names}
use Rattle.goal_laws.proofs.Steps.{Told, EachChoice, steps-induction}
use Rattle.goal_laws.proofs.Branches.{branches-flat_map, IsBranch, branches-are}
use Rattle.frame_laws.proofs.Signs.{in_has}
use Rattle.list_laws.specs.In.{IsIn}
use Rattle.list_laws.proofs.Lists.{every_at, in_left, in_right}
use Rattle.expansions.specs.Leaves.{leaf}
use Rattle.expansion_laws.proofs.Goals.{all_in}
use Rattle.expansion_laws.proofs.Kept.{expansion_has}
use Rattle.certificate_lines.specs.Line as L
use Rattle.certificate_lines.specs.Line.{Line}
use Rattle.refutations.specs.TreeLines.{step_lines, tree_lines}
use Rattle.refutations.specs.GoalLines.{leaf_lines, kind_lines, goal_lines}
use Rattle.refutations.specs.Expansions.{finders_of, expansion_of}
use Rattle.refutation_laws.proofs.Texts.{at_fits, clash_fits, rule_fits, kind_fits}
use Rattle.refutation_laws.proofs.FittingPlans.{AllFit, fit_none, fit_more, fit_both, fit_each}
use Rattle.refutation_laws.proofs.FittingLeaves.{leaf_fits}

-- a rising set without a clash has no more literals than there are positions

few_literals : (n k : ℕ) (S : List Signed) → is_rising S ≡ true
    → ((x : Signed) → IsIn x S → IsIn (opposite x) S → ⊥)
    → ((x : Signed) → IsIn x S → (k ≤ position_of x) × (position_of x < n)) → k ≤ n → length S + k ≤ n
few_literals n k [] r c h l = omega (arith, l)
few_literals n k (x ∷ S) r c h l =
    let (first, rest) = and_parts (every (comes_before x) S) (is_rising S) r in
    let (a, b) = h x (inl refl) in
    let m = few_literals n (suc (position_of x)) S rest (λ y i j. c y (inr i) (inr j)) (λ y i.
    let p = comes_before-lt x y (every_at (comes_before x) y S first i)
    (λ e. c x (inl refl) (inr (subst (λ z. IsIn z S) (sym e) i))) in
    (omega (arith, p), (h y (inr i)).1)) (omega (arith, b)) in
    omega (arith, m, a)

module _ (T : List Position) (ok : IsTable T) (few : length T ≤ 4294967296) where
  abbrev pub IsInside : List Signed → Type 0
  IsInside S = every (λ x. nat_lt (position_of x) (length T)) S ≡ true

  position_small : (S : List Signed) (x : Signed) → IsInside S → has x S ≡ true → position_of x < 4294967296
  position_small S x h i =
      let l = ltb-true (position_of x) (length T) (every-has (λ y. nat_lt (position_of y) (length T)) S x h i) in
      omega (arith, l, few)

  set_length : (t : Kind) (S : List Signed) → IsInside S → is_rising S ≡ true → IsSaturated T t S
      → length S ≤ 4294967296
  set_length t S h r full =
      let m = few_literals (length T) 0 S r
      (λ x i j. true≢false (sym (in_has (opposite x) S j) ∙ full.no_clash x (in_has x S i)))
      (λ x i. (
        omega arith,
        ltb-true (position_of x) (length T)
            (every_at (λ y. nat_lt (position_of y) (length T)) x S h i),
      )) (omega arith) in
      omega (arith, m, few)

  choices_inside : (t : Kind) (S : List Signed) (x : Signed) (cs : List (List Signed)) → IsInside S
      → choices T t x ≡ Some cs
      → AllByRecursion (λ C. IsInside (add_all C S)) cs
  choices_inside t S x cs h e =
      all-weaker _ _ cs
      (λ C names.
      every-add_all (λ y. nat_lt (position_of y) (length T)) C S
      ∙ and_from _ _ (all-every _ C (all-weaker _ _ C (λ y l. lt-ltb (position_of y) (length T) l) names)) h)
      (subst (λ o. IfSome o (AreNames (λ q. q < length T) t)) e
      (choices-names (λ q. q < length T) t T x (ok.named (position_of x))))

  module _ (rename : ℕ → ℕ) (low : (k : ℕ) → rename k < 100000) where
    module _ (t : Kind) (leaf_of : List Signed → List Line) where
      abbrev BranchesFit : List Step → Type 0
      BranchesFit ss = (B : List Signed) → IsIn B (branches ss) → IsInside B → is_rising B ≡ true
          → AllFit rename low (leaf_of B)

      abbrev TreeFits : List Signed → List Step → Type 0
      TreeFits S ss = IsInside S → is_rising S ≡ true → BranchesFit ss → AllFit rename low (tree_lines leaf_of ss)

      lines_append : (xs ys : List Step) → AllFit rename low (tree_lines leaf_of xs)
          → AllFit rename low (tree_lines leaf_of ys) → AllFit rename low (tree_lines leaf_of (xs ++ ys))
      lines_append [] ys a b = b
      lines_append (x ∷ xs) ys a b =
          fit_both rename low (step_lines leaf_of x) (tree_lines leaf_of (xs ++ ys))
          (λ l i. a l (in_left l (step_lines leaf_of x) (tree_lines leaf_of xs) i))
          (lines_append xs ys (λ l i. a l (in_right l (step_lines leaf_of x) (tree_lines leaf_of xs) i)) b)

      choices_fit : (S : List Signed) (cs : List (List Signed)) → is_rising S ≡ true
          → AllByRecursion (λ C. TreeFits (add_all C S) (steps T t (add_all C S))) cs
          → AllByRecursion (λ C. IsInside (add_all C S)) cs
          → BranchesFit (flat_map (λ C. steps T t (add_all C S)) cs)
          → AllFit rename low (tree_lines leaf_of (flat_map (λ C. steps T t (add_all C S)) cs))
      choices_fit S [] r h i b = fit_none rename low
      choices_fit S (C ∷ cs) r h i b =
          lines_append (steps T t (add_all C S)) (flat_map (λ C. steps T t (add_all C S)) cs)
          (h.0 i.0 (is_rising-add_all C S r) (λ B j. b B
          (subst (λ z. IsIn B z) (sym (branches-flat_map (λ C. steps T t (add_all C S)) (C ∷ cs)))
          (in_left B (branches (steps T t (add_all C S)))
          (flat_map (λ C. branches (steps T t (add_all C S))) cs) j))))
          (choices_fit S cs r h.1 i.1 (λ B j. b B
          (subst (λ z. IsIn B z) (sym (branches-flat_map (λ C. steps T t (add_all C S)) (C ∷ cs)))
          (in_right B (branches (steps T t (add_all C S))) (flat_map (λ C. branches (steps T t (add_all C S))) cs)
          (subst (λ z. IsIn B z) (branches-flat_map (λ C. steps T t (add_all C S)) cs) j)))))

      up : (S : List Signed) (s : Step) → Told T t S s → EachChoice T ok t (λ S'. TreeFits S' (steps T t S')) S s
          → TreeFits S (steps_from (steps T t) S s)
      up S (Clash p) (a, c) h i r b =
          fit_more rename low (L.Clash p) [] (clash_fits rename low p (position_small S (Plus p) i a))
          (fit_none rename low)
      up S (Wrong x) (a, w) h i r b =
          fit_more rename low (L.OfKind x) [] (kind_fits rename low x (position_small S x i a)) (fit_none rename low)
      up S (Saturated B) (e, full) h i r b =
          fit_both rename low (leaf_of B) []
          (b B (inl refl) (subst IsInside (sym e) i) (subst (λ z. is_rising z ≡ true) (sym e) r))
          (fit_none rename low)
      up S (Rule x cs) (a, e, new) h i r b =
          fit_more rename low (L.Rule x) (tree_lines leaf_of (flat_map (λ C. steps T t (add_all C S)) cs))
          (rule_fits rename low x (position_small S x i a))
          (choices_fit S cs r h (choices_inside t S x cs i e) b)

      tree_fits : (S : List Signed) → TreeFits S (steps T t S)
      tree_fits = steps-induction T ok t TreeFits up

    module _ (number : List Signed → Option ℕ) where
      kind_fits_at : (g : List Signed) → (expansion_of T g).hole ≡ None → IsInside g → is_rising g ≡ true → (t : Kind)
          → AllFit rename low (kind_lines number T g t)
      kind_fits_at g hole i r t =
          fit_more rename low (L.At t) (tree_lines (leaf_lines number T t) (steps T t g)) (at_fits rename low t)
          (tree_fits t (leaf_lines number T t) g i r (λ B j inside rising.
          let (full, has) = all_in (IsBranch T ok t g) B (branches (steps T t g)) (branches-are T ok t g) j in
          let (k, (more, e, up)) = expansion_has T (leaf (finders_of T) T) g hole t B j in
          leaf_fits rename low number T B (set_length t B inside rising full) t k more e))

      -- the lines of a goal without hole are in the grammar
      pub goal_fits : (g : List Signed) → (expansion_of T g).hole ≡ None → IsInside g → is_rising g ≡ true
          → AllFit rename low (goal_lines number T g)
      unfolding goal_lines
      goal_fits g hole i r =
          fit_each rename low (kind_lines number T g) all_kinds (λ t j. kind_fits_at g hole i r t)
