-- The duties of plans to come: what a plan at hand leaves, and the options that come in its place.
use Rattle.std.proofs.Common.{◌≡◌, ℕ, suc, ◌<◌, List, [], ◌∷◌, ◌++◌, map, take, drop, length, reverse, Bool, true, false, Option, Some, None, IfSome, Ok, refl, arith, ap, ap₂, sym, ◌∙◌, subst, drop-cons}
use Rattle.std.proofs.lemmas.List.{length-append, length-take-le, take-append-le}
use Rattle.std.proofs.Math.Seq.{take-length}
use Rattle.positions.specs.Position.{Position}
use Rattle.goals.specs.Signed.{Signed, Plus}
use Rattle.frames.specs.Frame.{Frame}
use Rattle.frames.specs.Plan.{Plan, options}
use Rattle.frames.specs.PlanLines.{where_true}
use Rattle.certificate_lines.specs.Line as L
use Rattle.verdicts.specs.RowLines.{and_then, if_so}
use Rattle.verdicts.specs.Duties.{Form, Duty, OfPlan, plan_duties, rest, after, run}
use Rattle.js_plans.specs.declared.server.Server.{Server}
use Rattle.js_plans.specs.Serving.{serve, plan_after}
use Rattle.js_plans.specs.Servers.{cells_of, is_valid}
use Rattle.js_plans.specs.Choosing.{next_demand, choices_after}
use Rattle.js_check_plans.specs.declared.open_plans.Pending.{Pending}
use Rattle.js_check_plans.specs.declared.choices.Choice.{Choice}
use Rattle.js_check_plans.specs.declared.choices.Slot.{Slot}
use Rattle.js_check_plans.specs.declared.choices.Slot.TheVariants as S
use Rattle.js_check_plans.specs.Reach.{IsPath}
use Rattle.js_check_plans.specs.Slots.{choices_at, with_rest_at}
use Rattle.js_check_plans.specs.OpenDuties.{at_hand, option_duties, pending_duties, entry, AreFine}
use Rattle.js_check_plans.proofs.Options.{choices-are}
use Rattle.js_check_plans.proofs.Plans.{path-take, path-push}
use Rattle.js_plans.proofs.Options.{options-choices}
use Rattle.js_plans.proofs.Plans.{next-plan}
use Rattle.list_laws.proofs.Lists.{reverse-last}

-- where a test decides, nothing or the rule is left
pub by_test : (form : Form) (frame : Frame) (left : List Signed) (b : Bool) (r : ℕ)
    → and_then (λ qs. Ok (plan_duties form frame left qs)) (where_true b r) ≡ if_so r b []
by_test form frame left true r = refl
by_test form frame left false r = refl

module _ (frame : Frame) where
  -- the options of a plan are the plans of one more server
  option-duties : (form : Form) (ws ss : List Server) → length ws < length frame.demands
      → plan_duties form frame (drop (length ws) frame.demands)
      (map (serve (next_demand frame ws) (plan_after frame ws)) ss)
      ≡ map (λ s. at_hand form frame (ws ++ s ∷ [])) ss
  option-duties form ws [] l = refl
  option-duties form ws (s ∷ ss) l =
      let count : suc (length ws) ≡ length (ws ++ s ∷ []) = omega (arith, length-append ws (s ∷ [])) in
      ap₂ (λ d ds. d ∷ ds)
      (ap₂ (λ p ds. OfPlan form frame p ds) (sym (next-plan frame ws s l))
      (ap rest (drop-cons frame.demands (length ws) (Plus 0) l) ∙ ap (λ n. drop n frame.demands) count))
      (option-duties form ws ss l)

  split-line : (T : List Position) (cite : ℕ → List Signed → Bool) (form : Form) (p : Plan) (left : List Signed)
      (d : Signed) (ds : List Signed) → left ≡ d ∷ ds
      → after T cite (OfPlan form frame p left) L.Split ≡ Ok (plan_duties form frame left (options frame d p))
  split-line T cite form p left d ds e =
      ap (λ us. after T cite (OfPlan form frame p us) L.Split) e
      ∙ ap (λ us. Ok (plan_duties form frame us (options frame d p))) (sym e)

  pub after-split : (T : List Position) (cite : ℕ → List Signed → Bool) (form : Form) (ws : List Server)
      → length ws < length frame.demands → after T cite (at_hand form frame ws) L.Split
      ≡ Ok (map (λ s. at_hand form frame (ws ++ s ∷ [])) (choices_after frame ws))
  after-split T cite form ws l =
      split-line T cite form (plan_after frame ws) (drop (length ws) frame.demands) (next_demand frame ws)
      (drop (suc (length ws)) frame.demands) (drop-cons frame.demands (length ws) (Plus 0) l)
      ∙ ap (λ qs. Ok (plan_duties form frame (drop (length ws) frame.demands) qs))
      (options-choices frame (next_demand frame ws) (plan_after frame ws))
      ∙ ap Ok (option-duties form ws (choices_after frame ws) l)

  pub some-left : (ws : List Server) → length ws < length frame.demands
      → (d : Signed) × (ds : List Signed) × (drop (length ws) frame.demands ≡ d ∷ ds)
  some-left ws l = (_, _, drop-cons frame.demands (length ws) (Plus 0) l)

  -- what a choice means
  pub some-choice : (ws : List Server) (o : Option Choice) (choice : Choice) (slot : Slot) → o ≡ Some choice
      → with_rest_at frame ws o ≡ choices_at frame ws slot
      → choices_at frame ws slot ≡ choice.server ∷ choices_at frame ws choice.rest
  some-choice ws o choice slot is w = sym w ∙ ap (λ p. with_rest_at frame ws p) is

  pub valid-choice : (ws : List Server) (o : Option Choice) (choice : Choice) → o ≡ Some choice
      → IfSome o (λ choice. is_valid frame.heads (length (cells_of ws)) choice.server ≡ true)
      → is_valid frame.heads (length (cells_of ws)) choice.server ≡ true
  valid-choice ws o choice is v =
      subst (λ p. IfSome p (λ choice. is_valid frame.heads (length (cells_of ws)) choice.server ≡ true)) is v

  pub no-choice : (ws : List Server) (o : Option Choice) (slot : Slot) → o ≡ None
      → with_rest_at frame ws o ≡ choices_at frame ws slot → choices_at frame ws slot ≡ []
  no-choice ws o slot is w = sym w ∙ ap (λ p. with_rest_at frame ws p) is

  -- the entry that comes next
  module _ (path cut : List Server) (es old : List Pending) (e : Pending) (q : old ≡ es ++ e ∷ [])
      (back : cut ≡ take e.level path) (fine : AreFine frame path (reverse old)) where
    at_next : AreFine frame path (e ∷ reverse es)
    at_next = subst (AreFine frame path) (reverse-last es old e q) fine

    pub cut-long : length cut ≡ e.level
    cut-long = ap length back ∙ length-take-le e.level path at_next.0

    pub cut-left : length cut < length frame.demands
    cut-left = omega (arith, cut-long, at_next.1)

    pub cut-path : IsPath frame path → IsPath frame cut
    cut-path p = subst (IsPath frame) (sym back) (path-take frame e.level path p)

    pub cut-fine : AreFine frame cut (reverse es)
    cut-fine = subst (λ us. AreFine frame us (reverse es)) (sym back) at_next.2

    pub cut-duties : (form : Form) → pending_duties form frame path (reverse old)
        ≡ option_duties form frame cut e.next ++ pending_duties form frame cut (reverse es)
    cut-duties form =
        ap (pending_duties form frame path) (reverse-last es old e q)
        ∙ ap (λ us. option_duties form frame us e.next ++ pending_duties form frame us (reverse es)) (sym back)

    -- where the path has no choice left, what is pending is what was left before
    pub none-duties : (form : Form) → choices_at frame cut e.next ≡ []
        → pending_duties form frame cut (reverse es) ≡ pending_duties form frame path (reverse old)
    none-duties form none =
        sym (cut-duties form
        ∙ ap (λ ss. map (λ s. at_hand form frame (cut ++ s ∷ [])) ss ++ pending_duties form frame cut (reverse es))
        none)

    -- a choice is taken, and those after it come next
    module _ (s : Server) (rest : Slot) (path' : List Server) (new : List Pending) (grown : path' ≡ cut ++ s ∷ [])
        (put : new ≡ es ++ entry e.level rest ∷ []) where
      kept : take e.level path' ≡ cut
      kept =
          ap (take e.level) grown ∙ take-append-le e.level cut (s ∷ []) (omega (arith, cut-long))
          ∙ ap (λ n. take n cut) (sym cut-long) ∙ take-length cut

      pub next-path : IsPath frame path → is_valid frame.heads (length (cells_of cut)) s ≡ true → IsPath frame path'
      next-path p v = subst (IsPath frame) (sym grown) (path-push frame cut s (cut-path p) (cut-left, v))

      pub next-fine : AreFine frame path' (reverse new)
      next-fine =
          subst (AreFine frame path') (sym (reverse-last es new (entry e.level rest) put)) (
            omega (arith, cut-long, ap length grown, length-append cut (s ∷ [])),
            at_next.1,
            subst (λ us. AreFine frame us (reverse es)) (sym kept) cut-fine,
          )

      pub next-duties : (form : Form) → choices_at frame cut e.next ≡ s ∷ choices_at frame cut rest
          → at_hand form frame path' ∷ pending_duties form frame path' (reverse new)
          ≡ pending_duties form frame path (reverse old)
      next-duties form some =
          ap₂ (λ us es. at_hand form frame us ∷ pending_duties form frame path' es) grown
          (reverse-last es new (entry e.level rest) put)
          ∙ ap (λ us. at_hand form frame (cut ++ s ∷ [])
          ∷ (option_duties form frame us rest ++ pending_duties form frame us (reverse es))) kept
          ∙ sym (cut-duties form
          ∙ ap (λ ss. map (λ s. at_hand form frame (cut ++ s ∷ [])) ss ++ pending_duties form frame cut (reverse es))
          some)

  -- the options in the place of the plan at hand
  module _ (ws : List Server) (ps qs : List Pending) (n : ℕ) (l : length ws < length frame.demands)
      (count : n ≡ length ws) (put : qs ≡ ps ++ entry n (S.Head 0) ∷ []) where
    all : reverse qs ≡ entry (length ws) (S.Head 0) ∷ reverse ps
    all = reverse-last ps qs (entry n (S.Head 0)) put ∙ ap (λ k. entry k (S.Head 0) ∷ reverse ps) count

    pub split-fine : AreFine frame ws (reverse ps) → AreFine frame ws (reverse qs)
    split-fine f =
        subst (AreFine frame ws) (sym all)
        (omega arith, l, subst (λ us. AreFine frame us (reverse ps)) (sym (take-length ws)) f)

    pub split-duties : (T : List Position) (cite : ℕ → List Signed → Bool) (form : Form) (ds : List Duty)
        → ds ≡ pending_duties form frame ws (reverse qs)
        → run T cite (at_hand form frame ws ∷ pending_duties form frame ws (reverse ps)) (L.Split ∷ []) ≡ Ok ds
    split-duties T cite form ds e =
        ap (and_then (λ us. run T cite (us ++ pending_duties form frame ws (reverse ps)) []))
        (after-split T cite form ws l)
        ∙ ap Ok
        (ap (λ ss. map (λ s. at_hand form frame (ws ++ s ∷ [])) ss ++ pending_duties form frame ws (reverse ps))
        (sym (choices-are frame ws (omega (arith, l))))
        ∙ ap (λ us. option_duties form frame us (S.Head 0) ++ pending_duties form frame us (reverse ps))
        (sym (take-length ws))
        ∙ ap (pending_duties form frame ws) (sym all) ∙ sym e)
