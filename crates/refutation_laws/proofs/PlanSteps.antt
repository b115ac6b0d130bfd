-- The lines of a tree of plans, step by step, as a walk through the tree gives the steps.
use Rattle.std.proofs.Common.{◌≡◌, ℕ, true, false, cond, List, [], ◌∷◌, flat_map, length, Option, Some, None, ap, ◌∙◌}
use Rattle.positions.specs.Position.{Position}
use Rattle.goals.specs.Signed.{Signed}
use Rattle.frames.specs.Frame.{Frame, is_at_end}
use Rattle.frames.specs.Plan.{Plan, size, options, first_clash, PlanStep, Over, Clashing, Split, Complete, by_clash, steps}
use Rattle.certificate_lines.specs.Line as L
use Rattle.certificate_lines.specs.Line.{Line}
use Rattle.verdicts.specs.Duties.{Form}
use Rattle.refutations.specs.PlanTreeLines.{at_line, complete_line, unless_clash, lines_from}

module _ (number : List Signed → Option ℕ) (form : Form) (T : List Position) (frame : Frame) (p : Plan) where
  abbrev Lines : List Signed → List Line
  Lines left = lines_from number form T frame left p

  -- a step, and the lines in its place
  abbrev Tells : List Signed → List PlanStep → List Line → Type 0
  Tells left ss ls = (steps T frame left p ≡ ss) × (Lines left ≡ ls)

  -- a plan that places more than there may be has its line
  pub over_line : (left : List Signed) → is_at_end (size frame p) frame.below ≡ true
      → Tells left (Over ∷ []) (L.Count ∷ [])
  over_line [] e = (
    ap (λ b. cond b (Over ∷ []) (by_clash (first_clash T frame p) (Complete p ∷ []))) e,
    ap (λ b. cond b (L.Count ∷ []) (unless_clash number form T frame p (first_clash T frame p)
        (complete_line number form T frame p ∷ []))) e,
  )
  over_line (d ∷ left) e = (
    ap (λ b. cond b (Over ∷ []) (by_clash (first_clash T frame p)
        (Split (length (options frame d p)) ∷ flat_map (steps T frame left) (options frame d p)))) e,
    ap (λ b. cond b (L.Count ∷ []) (unless_clash number form T frame p (first_clash T frame p)
        (L.Split ∷ flat_map (lines_from number form T frame left) (options frame d p)))) e,
  )

  module _ (under : is_at_end (size frame p) frame.below ≡ false) where
    by_first : (o : Option ℕ) → first_clash T frame p ≡ o → (ss : List PlanStep) (ls : List Line)
        → (cond (is_at_end (size frame p) frame.below) (Over ∷ []) (by_clash (first_clash T frame p) ss)
        ≡ by_clash o ss)
        × (cond (is_at_end (size frame p) frame.below) (L.Count ∷ [])
        (unless_clash number form T frame p (first_clash T frame p) ls)
        ≡ unless_clash number form T frame p o ls)
    by_first o e ss ls = (
      ap (λ b. cond b (Over ∷ []) (by_clash (first_clash T frame p) ss)) under ∙ ap (λ o. by_clash o ss) e,
      ap (λ b. cond b (L.Count ∷ []) (unless_clash number form T frame p (first_clash T frame p) ls)) under
          ∙ ap (λ o. unless_clash number form T frame p o ls) e,
    )

    -- a plan that places what clashes has the line that names it
    pub clash_line : (left : List Signed) (k : ℕ) → first_clash T frame p ≡ Some k
        → Tells left (Clashing k ∷ []) (at_line form frame p k L.Clashes ∷ [])
    clash_line [] k e = by_first (Some k) e (Complete p ∷ []) (complete_line number form T frame p ∷ [])
    clash_line (d ∷ left) k e =
        by_first (Some k) e (Split (length (options frame d p)) ∷ flat_map (steps T frame left) (options frame d p))
        (L.Split ∷ flat_map (lines_from number form T frame left) (options frame d p))

    module _ (clear : first_clash T frame p ≡ None) where
      -- a plan with a demand left is split, by one line and those of its options
      pub split_line : (d : Signed) (left : List Signed)
          → Tells (d ∷ left)
          (Split (length (options frame d p)) ∷ flat_map (steps T frame left) (options frame d p))
          (L.Split ∷ flat_map (lines_from number form T frame left) (options frame d p))
      split_line d left =
          by_first None clear
          (Split (length (options frame d p)) ∷ flat_map (steps T frame left) (options frame d p))
          (L.Split ∷ flat_map (lines_from number form T frame left) (options frame d p))

      -- a complete plan has its own line
      pub plan_line_is : Tells [] (Complete p ∷ []) (complete_line number form T frame p ∷ [])
      plan_line_is = by_first None clear (Complete p ∷ []) (complete_line number form T frame p ∷ [])
