-- What is reported of the first goal, and that its document meets it.
use Rattle.std.proofs.Common.{◌≡◌, ℕ, ◌+◌, true, false, cond, List, length, take, Option, Some, None, is_some, Result, Ok, Err, IfOk, ap, ap₂, sym, ◌∙◌, subst, arith}
use Rattle.std.proofs.lemmas.List.{length-map}
use Rattle.documents.specs.Kind.{Kind}
use Rattle.shared_documents.specs.Part.{Part}
use Rattle.positions.specs.Position.{Position}
use Rattle.goals.specs.Signed.{Signed}
use Rattle.alternatives.specs.Limit.{LimitKind}
use Rattle.alternatives.specs.Expansion.{Expansion}
use Rattle.search.specs.Explored.{Found}
use Rattle.search.specs.Rounds.{round}
use Rattle.search.specs.Uses.{satisfied, last_round, used_goals}
use Rattle.search.specs.Witness.{place_in, part, parts}
use Rattle.search_laws.proofs.Rise.{answer_round}
use Rattle.search_laws.proofs.Parts.{place_last}
use Rattle.decisions.specs.Decision.{Verdict, Document, decided, by_limits, first_hole, verdict_of, of_found}
use Rattle.js_decide.specs.View.{outcome_view}
use Rattle.js_decide.specs.MeetsRoot.{MeetsRoot}
use Rattle.js_decide.specs.declared.outcome.Outcome.{Outcome}

module _ (words : List Signed → Kind → ℕ → ℕ → ℕ → List ℕ) (expansion : List Signed → Expansion) (f : Found) where
  -- the last part is the goal's own
  pub document_told : (ps : List Part) (i : ℕ) → is_some (satisfied expansion f 0) ≡ true
      → ps ≡ parts words expansion f 0 → i + 1 ≡ length ps → Document ps i ≡ verdict_of words expansion f
  document_told ps i e same last =
      let reached : round expansion f (length f.goals) 0 ≡ true =
      sym (answer_round expansion f (length f.goals) 0) ∙ e in
      let own = place_last words expansion f 0 reached in
      let many = length-map (used_goals expansion f 0) (part words expansion f (place_in (used_goals expansion f 0))) in
      let at : i ≡ place_in (used_goals expansion f 0) 0 = omega (arith, last, ap length same, own, many) in
      ap₂ Document same at
      ∙ sym (ap (λ b. cond b (Document (parts words expansion f 0) (place_in (used_goals expansion f 0) 0))
      (by_limits (first_hole expansion (take f.taken f.goals)) f.over)) e)

  pub all_told : (g : Found) (v : Verdict) (n r : ℕ) → f ≡ g → v ≡ verdict_of words expansion f
      → n ≡ length f.goals → r ≡ last_round expansion f → decided v n r ≡ of_found words expansion g
  all_told g v n r same e p q =
      ap (λ w. decided w n r) e
      ∙ ap₂ (λ a b. decided (verdict_of words expansion f) a b) p q
      ∙ ap (of_found words expansion) same

module _ (T : List Position) (expansion : List Signed → Expansion) where
  -- a limit reports no document
  limits_meet : (f : Found) (h : Option (LimitKind × List Signed)) (over : Option LimitKind)
      → MeetsRoot T expansion f (by_limits h over)
  limits_meet f (Some h) over = tt
  limits_meet f None (Some k) = tt
  limits_meet f None None = tt

  pub limited_meets : {E : Type 0} (f : Found) (h : Option (LimitKind × List Signed)) (over : Option LimitKind)
      (r : Result Outcome E) → IfOk r (λ o. outcome_view o ≡ by_limits h over)
      → IfOk r (λ o. MeetsRoot T expansion f (outcome_view o))
  limited_meets f h over (Ok o) e = subst (MeetsRoot T expansion f) (sym e) (limits_meet f h over)
  limited_meets f h over (Err x) e = tt

  -- a verdict on the goals that are explored from a root is one on the root
  pub still_meets : (f g : Found) (v w : Verdict) → f ≡ g → w ≡ v → MeetsRoot T expansion f v
      → MeetsRoot T expansion g w
  still_meets f g v w e p h =
      subst (λ z. MeetsRoot T expansion z w) e (subst (MeetsRoot T expansion f) (sym p) h)
