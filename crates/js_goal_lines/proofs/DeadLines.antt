-- The lines of a goal, and of a set, none of whose alternatives is met are dead.
use Rattle.std.proofs.Common.{◌≡◌, ℕ, ◌<◌, inl, Bool, true, false, List, [], ◌∷◌, ◌++◌, map, drop, length, Option, Some, Result, Ok, Err, OnOk, refl, ap, ap₂, sym, ◌∙◌, subst, append-nil, arith, true≢false}
use Rattle.std.proofs.lemmas.Bool.{and_parts, ltb-true}
use Rattle.documents.specs.Kind as K
use Rattle.documents.specs.Kind.{all_kinds}
use Rattle.positions.specs.Position.{Position, is_table}
use Rattle.positions.specs.Holds.{IsTable}
use Rattle.position_laws.proofs.Tables.{is_table-IsTable}
use Rattle.goals.specs.Signed.{Signed, position_of}
use Rattle.goals.specs.Tree.{steps, branches}
use Rattle.list_laws.specs.In.{IsIn}
use Rattle.frames.specs.Frame.{is_at_end}
use Rattle.frames.specs.ArrayFrame as A
use Rattle.frames.specs.ArrayFrame.{array_frame}
use Rattle.frames.specs.ObjectFrame as O
use Rattle.alternatives.specs.Alternative as Alt
use Rattle.alternatives.specs.Alternative.{is_met}
use Rattle.expansions.specs.Leaves.{scalar, leaf}
use Rattle.expansion_laws.proofs.Leaf.{ok_same}
use Rattle.expansion_laws.proofs.Kept.{expansion_has}
use Rattle.certificate_lines.specs.Line as L
use Rattle.certificate_lines.specs.Line.{Line}
use Rattle.verdicts.specs.Duties.{AtKind, OfSet, OfArrays, run}
use Rattle.refutations.specs.PlanTreeLines.{plan_lines}
use Rattle.refutations.specs.ObjectLines.{object_lines}
use Rattle.refutations.specs.GoalLines.{goal_lines}
use Rattle.refutations.specs.Expansions.{finders_of, expansion_of}
use Rattle.refutation_laws.proofs.CompleteLines.{can}
use Rattle.refutation_laws.proofs.PlanLeaves.{arrays_do}
use Rattle.refutation_laws.proofs.Objects.{objects_do}
use Rattle.refutation_laws.proofs.Goals.{goal_does}
use Rattle.js_algebra.specs.View.{is_in_table, are_in_table}
use Rattle.js_lines.specs.declared.lines.CertLine.{CertLine}
use Rattle.js_lines.specs.View.{line_view}
use Rattle.js_row_lines.proofs.DeadLines.{added-are}
use Rattle.js_goal_lines.specs.Dead.{IsUnmet, AreDead, AreDeadAt}
use Rattle.list_laws.proofs.Tests.{none_at}

some-false : (b : Bool) → Some b ≡ Some false → b ≡ false
some-false b e = cc

-- the tree of no positions is saturated at once
null-branch : (T : List Position) → IsIn [] (branches (steps T K.Null []))
unfolding steps
null-branch T = inl refl

module _ (number : List Signed → Option ℕ) (T : List Position) where
  -- null meets the goal of no positions
  never-unmet : IsUnmet number T [] → ⊥
  never-unmet h =
      let (k, (more, e, up)) = expansion_has T (leaf (finders_of T) T) [] h.whole K.Null [] (null-branch T) in
      let q = ok_same (scalar K.Null k Alt.Null ∷ []) more (leaf (finders_of T) T K.Null k []) refl e in
      true≢false (none_at (is_met (can number)) (scalar K.Null k Alt.Null) (expansion_of T []).alternatives h.unmet
      (up (scalar K.Null k Alt.Null) (subst (λ z. IsIn (scalar K.Null k Alt.Null) z) q (inl refl))))

  goal-dead : (ranks : List ℕ) → is_table T ranks ≡ true → (g : List Signed) → are_in_table T g ≡ true
      → AreDead number T g (goal_lines number T g)
  goal-dead ranks table [] inside h cite cited = absurd (never-unmet h)
  goal-dead ranks table (x ∷ g) inside h cite cited =
      let first : position_of x < length T =
      ltb-true (position_of x) (length T) (and_parts (is_in_table T x) (are_in_table T g) inside).0 in
      let ok : IsTable T = is_table-IsTable T ranks table (omega (arith, first)) in
      ap₂ (run T cite) (sym (append-nil (map (λ t. AtKind t (x ∷ g)) all_kinds)))
      (sym (append-nil (goal_lines number T (x ∷ g))))
      ∙ goal_does T ok cite number cited (x ∷ g) h.whole
      (λ a i. none_at (is_met (can number)) a (expansion_of T (x ∷ g)).alternatives h.unmet i) [] []

  array-dead : (S : List Signed)
      → AreDeadAt number T K.Array S (L.Arrays ∷ plan_lines number OfArrays T (array_frame T S))
  array-dead S h cite cited =
      let ls = L.Arrays ∷ plan_lines number OfArrays T (array_frame T S) in
      ap (run T cite (OfSet K.Array S ∷ [])) (sym (append-nil ls))
      ∙ arrays_do T S cite number cited 0 h.alternatives
      (some-false (is_at_end (A.lower T S) (A.below T S)) h.bounds) h.are
      (λ a i. none_at (is_met (can number)) a h.alternatives h.unmet i) [] []

  object-dead : (S : List Signed) → AreDeadAt number T K.Object S (object_lines number T S)
  object-dead S h cite cited =
      ap (run T cite (OfSet K.Object S ∷ [])) (sym (append-nil (object_lines number T S)))
      ∙ objects_do T S cite number cited 0 h.alternatives
      (some-false (is_at_end (O.lower T S) (O.below T S)) h.bounds) h.are
      (λ a i. none_at (is_met (can number)) a h.alternatives h.unmet i) [] []

  -- where they were added

  module _ (old : List CertLine) (now : List Line) where
    -- lines that were added for a goal without a met alternative show that no document meets it
    pub goal-added : (ranks : List ℕ) → is_table T ranks ≡ true → (g : List Signed) → are_in_table T g ≡ true
        → now ≡ map line_view old ++ goal_lines number T g → AreDead number T g (drop (length old) now)
    goal-added ranks table g inside e =
        subst (AreDead number T g) (sym (added-are old now (goal_lines number T g) e)) (goal-dead ranks table g inside)

    pub array-added : {A E : Type 0} (r : Result A E) (S : List Signed)
        → OnOk r (now ≡ map line_view old ++ L.Arrays ∷ plan_lines number OfArrays T (array_frame T S))
        → OnOk r (AreDeadAt number T K.Array S (drop (length old) now))
    array-added (Ok x) S e =
        subst (AreDeadAt number T K.Array S)
        (sym (added-are old now (L.Arrays ∷ plan_lines number OfArrays T (array_frame T S)) e)) (array-dead S)
    array-added (Err f) S e = tt

    pub object-added : {A E : Type 0} (r : Result A E) (S : List Signed)
        → OnOk r (now ≡ map line_view old ++ object_lines number T S)
        → OnOk r (AreDeadAt number T K.Object S (drop (length old) now))
    object-added (Ok x) S e =
        subst (AreDeadAt number T K.Object S) (sym (added-are old now (object_lines number T S) e)) (object-dead S)
    object-added (Err f) S e = tt
