-- What lines leave of the plan that servers make, by what is read off them.
use Rattle.std.proofs.Common.{◌≡◌, ℕ, ◌+◌, ◌<◌, min, List, [], drop, length, Bool, true, false, nat_lt, Some, None, option_map, slice_get, Err, refl, ap, ap₂, sym, ◌∙◌}
use Rattle.positions.specs.Position.{Position}
use Rattle.goals.specs.Signed.{Signed}
use Rattle.frames.specs.Frame.{Frame, is_at_end, list_at}
use Rattle.frames.specs.Plan.{Plan, size, placed}
use Rattle.frames.specs.PlanLines as P
use Rattle.frames.specs.PlanLines.{where_true, is_refuted, is_refuted_at, is_short, rooms}
use Rattle.certificate_lines.specs.Line as L
use Rattle.verdicts.specs.Rules.{not_refuted, plan_left}
use Rattle.verdicts.specs.RowLines.{and_then, if_so}
use Rattle.verdicts.specs.Duties as D
use Rattle.verdicts.specs.Duties.{Form, Duty, OfArrays, OfObjects, OfPlan, ending, entry, heads_placed, plan_duties, after}
use Rattle.verdicts.specs.Verdict.{cites}
use Rattle.js_plans.specs.declared.server.Server.{Server}
use Rattle.js_plans.specs.Serving.{plan_after}
use Rattle.js_plans.specs.Servers.{cells_of, most_used}
use Rattle.js_plans.specs.Goals.{place_after}
use Rattle.js_check_plans.specs.Reach.{IsPath, heads_of, server_at, served_at}
use Rattle.js_check_plans.specs.OpenDuties.{after_line, after_at}
use Rattle.js_check_plans.proofs.DutyLemmas.{by_test, some-left}
use Rattle.js_check_plans.proofs.Placing.{seen, placed-at}
use Rattle.js_plans.proofs.Plans.{heads-long, size-plan}

module _ (T : List Position) (gs : List (List Signed)) (frame : Frame) (ws : List Server) where
  abbrev plan : Plan
  plan = plan_after frame ws

  abbrev left : List Signed
  left = drop (length ws) frame.demands

  pub count-line : (form : Form) (b : Bool) → is_at_end (size frame plan) frame.below ≡ b
      → after_line T gs form frame ws L.Count ≡ if_so plan_left b []
  count-line form b e =
      by_test form frame left (is_at_end (size frame plan) frame.below) 24 ∙ ap (λ x. if_so plan_left x []) e

  pub member-line : (n : ℕ) (e : L.Ending)
      → after_line T gs OfObjects frame ws (L.OfMember n e) ≡ after_at T gs frame ws n e
  member-line n e =
      by_test OfObjects frame left
      (is_refuted_at T (cites gs) frame (slice_get (placed frame plan) n) (ending e)) 23

  heads-are : IsPath frame ws → heads_placed frame plan ≡ heads_of frame (most_used 0 ws) (length (cells_of ws))
  heads-are path = ap₂ min (size-plan frame ws path.few path.valid) (heads-long frame ws)

  pub tail-line : (n h k : ℕ) (e : L.Ending) → IsPath frame ws
      → h ≡ heads_of frame (most_used 0 ws) (length (cells_of ws)) → k ≡ h + n
      → after_line T gs OfArrays frame ws (L.OfTail n e) ≡ after_at T gs frame ws k e
  tail-line n h k e path is sum =
      by_test OfArrays frame left
      (is_refuted_at T (cites gs) frame (slice_get (placed frame plan) (heads_placed frame plan + n)) (ending e)) 23
      ∙ ap (λ i. after_at T gs frame ws i e) (ap (λ j. j + n) (heads-are path ∙ sym is) ∙ sym sum)

  pub index-line : (n h : ℕ) (e : L.Ending) (b : Bool) → IsPath frame ws
      → h ≡ heads_of frame (most_used 0 ws) (length (cells_of ws)) → nat_lt n h ≡ b
      → after_line T gs OfArrays frame ws (L.OfIndex n e)
      ≡ and_then (λ x. after_at T gs frame ws n e) (if_so not_refuted b n)
  index-line n h e b path is less =
      ap (λ x. and_then (D.after_plan T (cites gs) OfArrays frame plan left) (if_so not_refuted x (P.At n (ending e))))
      (ap (nat_lt n) (heads-are path ∙ sym is) ∙ less)
      ∙ go b where
        go : (b : Bool)
            → and_then (D.after_plan T (cites gs) OfArrays frame plan left) (if_so not_refuted b (P.At n (ending e)))
            ≡ and_then (λ x. after_at T gs frame ws n e) (if_so not_refuted b n)
        go true =
            by_test OfArrays frame left
            (is_refuted_at T (cites gs) frame (slice_get (placed frame plan) n) (ending e)) 23
        go false = refl

  -- a demand is left
  pub short-early : (form : Form) (es : List L.ShortEntry) → length ws < length frame.demands
      → after_line T gs form frame ws (L.Short es) ≡ Err plan_left
  short-early form es l =
      let (d, ds, e) = some-left frame ws l in
      ap (λ us. after T (cites gs) (OfPlan form frame plan us) (L.Short es)) e

  -- what is placed by a number is read off the servers
  pub refuted-some : (n : ℕ) (s : Server) (e : P.Ending) → IsPath frame ws → server_at frame ws n ≡ Some s
      → is_refuted_at T (cites gs) frame (slice_get (placed frame plan) n) e
      ≡ is_refuted T (cites gs) (list_at frame (place_after ws s) (served_at frame ws s)) e
  refuted-some n s e path h =
      ap (λ o. is_refuted_at T (cites gs) frame o e)
      (placed-at frame ws path n ∙ ap (option_map (seen frame ws)) h)

  pub refuted-none : (n : ℕ) (e : P.Ending) → IsPath frame ws → server_at frame ws n ≡ None
      → is_refuted_at T (cites gs) frame (slice_get (placed frame plan) n) e ≡ false
  refuted-none n e path h =
      ap (λ o. is_refuted_at T (cites gs) frame o e)
      (placed-at frame ws path n ∙ ap (option_map (seen frame ws)) h)
