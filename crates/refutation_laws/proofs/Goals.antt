-- The lines of a goal without hole, of which no alternative is met, do the duties of its trees.
use Rattle.std.proofs.Common.{◌≡◌, ℕ, inl, Bool, true, false, not, cond, ◌||◌, List, [], ◌∷◌, ◌++◌, map, filter, Option, Some, None, Result, Ok, Err, refl, ap, sym, subst, true≢false}
use Rattle.documents.specs.Kind as K
use Rattle.documents.specs.Kind.{Kind, all_kinds}
use Rattle.documents.specs.Tests.{every, some}
use Rattle.positions.specs.Position.{Position}
use Rattle.positions.specs.Holds.{IsTable}
use Rattle.goals.specs.Signed.{Signed}
use Rattle.goals.specs.Tree.{steps}
use Rattle.frames.specs.Frame.{is_at_end}
use Rattle.frames.specs.ArrayFrame as A
use Rattle.frames.specs.ArrayFrame.{array_frame}
use Rattle.frames.specs.ObjectFrame as O
use Rattle.finders.specs.Strings as W
use Rattle.finders.specs.Strings.{strings_of}
use Rattle.number_finder.specs.NumbersOf.{numbers_of}
use Rattle.list_laws.specs.In.{IsIn}
use Rattle.alternatives.specs.Alternative as Alt
use Rattle.alternatives.specs.Alternative.{Shape, Alternative, is_met}
use Rattle.alternatives.specs.Limit.{LimitKind}
use Rattle.expansions.specs.Leaves.{scalar, scalars, scalar_leaf, agrees, truth_values, leaf}
use Rattle.expansion_laws.proofs.Leaf.{ok_same}
use Rattle.expansion_laws.proofs.Kept.{expansion_has}
use Rattle.certificate_lines.specs.Line as L
use Rattle.certificate_lines.specs.Line.{Line}
use Rattle.verdicts.specs.Rules.{other_kind, truth_left, number_left}
use Rattle.verdicts.specs.RowLines.{if_so}
use Rattle.verdicts.specs.Leaves.{crossed, is_none_found}
use Rattle.verdicts.specs.Duties.{Duty, AtKind, OfSet, OfArrays, by_bounds, run}
use Rattle.refutations.specs.StringLines.{string_lines}
use Rattle.refutations.specs.PlanTreeLines.{plan_lines}
use Rattle.refutations.specs.ObjectLines.{object_lines}
use Rattle.refutations.specs.TreeLines.{tree_lines}
use Rattle.refutations.specs.GoalLines.{unless_crossed, leaf_lines, kind_lines, goal_lines}
use Rattle.refutations.specs.Expansions.{finders_of, expansion_of}
use Rattle.refutation_laws.proofs.Does.{Does, line_does, none_left, one_left, all_do}
use Rattle.refutation_laws.proofs.CompleteLines.{can}
use Rattle.refutation_laws.proofs.Trees.{tree_does}
use Rattle.refutation_laws.proofs.Strings.{strings_do}
use Rattle.refutation_laws.proofs.PlanLeaves.{arrays_do}
use Rattle.refutation_laws.proofs.Objects.{objects_do}
use Rattle.position_laws.proofs.SameKind.{same_kind-refl}

none_some : {A : Type 0} (p : A → Bool) (xs : List A) → filter p xs ≡ [] → some p xs ≡ false
none_some p [] e = refl
none_some p (x ∷ xs) e = go (p x) e (none_some p xs) where
  go : (b : Bool) → cond b (x ∷ filter p xs) (filter p xs) ≡ [] → (filter p xs ≡ [] → some p xs ≡ false)
      → (b || some p xs) ≡ false
  go true e more = cc e
  go false e more = more e

module _ (number : List Signed → Option ℕ) where
  -- none of the alternatives is met, where a goal counts as met that has no number
  abbrev pub AreUnmet : List Alternative → Type 0
  AreUnmet all = (a : Alternative) → IsIn a all → is_met (can number) a ≡ false

  -- a scalar is always met
  no_scalar : (t : Kind) (k : ℕ) (shape : Shape) (all : List Alternative) → AreUnmet all
      → IsIn (scalar t k shape) all → ⊥
  no_scalar t k shape all h i = absurd (true≢false (h (scalar t k shape) i))

  no_scalars : {A : Type 0} (t : Kind) (k : ℕ) (shape : A → Shape) (xs : List A)
      → AreUnmet (scalars t shape k xs) → xs ≡ []
  no_scalars t k shape [] h = refl
  no_scalars t k shape (x ∷ xs) h = absurd (no_scalar t k (shape x) (scalars t shape k (x ∷ xs)) h (inl refl))

module _ (T : List Position) (ok : IsTable T) (cite : ℕ → List Signed → Bool) (number : List Signed → Option ℕ)
    -- a number may be cited for its goal
    (cited : (g : List Signed) (k : ℕ) → number g ≡ Some k → cite k g ≡ true) where
  bounded : (t : Kind) (S : List Signed) (b : Bool) (ls : List Line) → crossed T S t ≡ Some b
      → (b ≡ false → Does T cite (OfSet t S) ls)
      → Does T cite (OfSet t S) (unless_crossed (Some b) ls)
  bounded t S true ls e h = line_does T cite (OfSet t S) L.Count [] [] (ap by_bounds e) (none_left T cite)
  bounded t S false ls e h = h refl

  no_truth : (k : ℕ) (S : List Signed) (more : List Alternative)
      → leaf (finders_of T) T K.Boolean k S ≡ Ok more → AreUnmet number more
      → Does T cite (OfSet K.Boolean S) (L.NoTruth ∷ [])
  no_truth k S more e h =
      let q = ok_same (scalars K.Boolean Alt.Truth k (truth_values T S)) more (leaf (finders_of T) T K.Boolean k S)
      refl e in
      let none = no_scalars number K.Boolean k Alt.Truth (truth_values T S)
      (subst (λ z. AreUnmet number z) (sym q) h) in
      line_does T cite (OfSet K.Boolean S) L.NoTruth [] []
      (ap (λ b. if_so truth_left (not b) []) (none_some (λ b. every (agrees T b) S) (false ∷ true ∷ []) none))
      (none_left T cite)

  -- a finder whose leaf has no alternative that is met finds none
  nothing : {A : Type 0} (t : Kind) (shape : A → Shape) (k : ℕ) (r : Result (Option A) LimitKind)
      (more : List Alternative) → scalar_leaf t shape k r ≡ Ok more → AreUnmet number more → r ≡ Ok None
  nothing t shape k (Ok None) more e h = refl
  nothing {A = A} t shape k (Ok (Some x)) more e h =
      absurd (no_scalar number t k (shape x) more h (subst (λ z. IsIn (scalar t k (shape x)) z) q (inl refl))) where
        q : scalars t shape k (x ∷ []) ≡ more
        q = ok_same (scalars t shape k (x ∷ [])) more (Ok (scalars t shape k (x ∷ []))) refl e
  nothing t shape k (Err l) more e h = cc

  leaf_does : (t : Kind) (k : ℕ) (S : List Signed) (more : List Alternative)
      → leaf (finders_of T) T t k S ≡ Ok more → AreUnmet number more
      → Does T cite (OfSet t S) (leaf_lines number T t S)
  leaf_does K.Null k S more e h =
      let q = ok_same (scalar K.Null k Alt.Null ∷ []) more (leaf (finders_of T) T K.Null k S) refl e in
      absurd (no_scalar number K.Null k Alt.Null more h
      (subst (λ z. IsIn (scalar K.Null k Alt.Null) z) q (inl refl)))
  leaf_does K.Boolean k S more e h = no_truth k S more e h
  leaf_does K.Number k S more e h =
      line_does T cite (OfSet K.Number S) L.NoNumber [] []
      (ap (λ r. if_so number_left (is_none_found r) []) (nothing K.Number Alt.Number k (numbers_of T S) more e h))
      (none_left T cite)
  leaf_does K.Text k S more e h =
      bounded K.Text S (is_at_end (W.lower T S) (W.below T S)) (string_lines T S) refl (λ free.
      strings_do T S cite free (nothing K.Text (λ w. Alt.Text) k (strings_of T S) more e h))
  leaf_does K.Array k S more e h =
      bounded K.Array S (is_at_end (A.lower T S) (A.below T S))
      (L.Arrays ∷ plan_lines number OfArrays T (array_frame T S)) refl (λ free.
      arrays_do T S cite number cited k more free e h)
  leaf_does K.Object k S more e h =
      bounded K.Object S (is_at_end (O.lower T S) (O.below T S)) (object_lines number T S) refl (λ free.
      objects_do T S cite number cited k more free e h)

  kind_does : (g : List Signed) → (expansion_of T g).hole ≡ None → AreUnmet number (expansion_of T g).alternatives
      → (t : Kind) → Does T cite (AtKind t g) (kind_lines number T g t)
  kind_does g hole unmet t =
      line_does T cite (AtKind t g) (L.At t) (OfSet t g ∷ [])
      (tree_lines (leaf_lines number T t) (steps T t g))
      (ap (λ b. if_so other_kind b (OfSet t g ∷ [])) (same_kind-refl t))
      (one_left T cite (OfSet t g) (tree_lines (leaf_lines number T t) (steps T t g))
      (tree_does T ok t cite (leaf_lines number T t) g (λ B i.
      let (k, (more, e, up)) = expansion_has T (leaf (finders_of T) T) g hole t B i in
      leaf_does t k B more e (λ a j. unmet a (up a j)))))

  -- the lines leave no duty of the goal's trees, whatever duties and lines come after
  pub goal_does : (g : List Signed) → (expansion_of T g).hole ≡ None
      → AreUnmet number (expansion_of T g).alternatives
      → (ds : List Duty) (ls : List Line)
      → run T cite (map (λ t. AtKind t g) all_kinds ++ ds) (goal_lines number T g ++ ls) ≡ run T cite ds ls
  unfolding goal_lines
  goal_does g hole unmet =
      all_do T cite (λ t. AtKind t g) (kind_lines number T g) all_kinds (λ t i. kind_does g hole unmet t)
