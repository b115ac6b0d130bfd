-- A visit by its step.
use Rattle.std.proofs.Common.{◌≡◌, ◌++◌, IfSome, reverse, length, ◌∷◌, ◌≤◌, false, ap, sym, ◌∙◌, subst}
use Rattle.frames.specs.Frame.{is_at_end}
use Rattle.frames.specs.Plan.{size}
use Rattle.js_plans.specs.declared.walk.PlanStep.TheVariants as V
use Rattle.js_plans.specs.Serving.{plan_after}
use Rattle.js_plans.specs.Servers.{servers_of}
use Rattle.js_plans.specs.Walks.{listed, left, steps_left, placed_heads, IsDropped, IsPath, AreFine, Opens}
use Rattle.js_plans.proofs.Remaining.{dropped, not_dropped, opened, clashed}
use Rattle.js_plans.proofs.walk.PlanWalk.visit.Goals as goal
use Rattle.js_plans.proofs.Served.{if_ok}
use Rattle.list_laws.proofs.Options.{none_is}

pub returns-in-Some-clause-visits : goal.returns-in-Some-clause-visits
returns-in-Some-clause-visits g c =
    let T = g.F.PlanFrame.table c.args.frame.now in
    let frame = g.F.PlanFrame.frame c.args.frame.now in
    let es = c.args.self.now.path.items in
    let ws = servers_of es ++ listed c.args.server in
    let d : IsDropped T frame ws c.in-Some.step = subst (λ xs. IsDropped T frame (servers_of xs ++ listed c.args.server)
    c.in-Some.step) c.as_slice-path.ensures.value
    (subst (λ o. IfSome o (λ s. IsDropped T frame (servers_of c.as_slice-path.result.now ++ listed c.args.server) s))
    c.in-Some.is c.in_ok-step.ensures.dropped) in
    let (step, is, told) = dropped T frame ws (servers_of es) c.in-Some.step (left T frame c.args.self.now) d in
    record {
      step = step;
      is = is;
      told = told;
      path = c.requires.path;
      cells = c.requires.cells;
      first = c.in_ok-step.ensures.first;
      fine = c.requires.fine;
      complete = λ e. absurd (not_dropped T frame ws c.in-Some.step d e);
    }

pub returns-then-not-branch-clause-visits : goal.returns-then-not-branch-clause-visits
returns-then-not-branch-clause-visits g c =
    let T = g.F.PlanFrame.table c.args.frame.now in
    let frame = g.F.PlanFrame.frame c.args.frame.now in
    let es = c.args.self.now.path.items in
    let ws = servers_of es ++ listed c.args.server in
    let (same, h) = c.in_ok-serve.ensures.clash c.if-not-branch.true in
    let stays : c.serve.new.path.items ≡ es = ap (λ v. v.items) same in
    let under : is_at_end (size frame (plan_after frame ws)) frame.below ≡ false =
    subst (λ xs. is_at_end (size frame (plan_after frame (servers_of xs ++ listed c.args.server))) frame.below ≡ false)
    c.as_slice-path.ensures.value
    (c.in_ok-step.ensures.kept (none_is c.in_ok-step.field-0 c.in_default.not-Some)).0 in
    let d = clashed T frame es c.args.server c.requires.path c.requires.fits h under in
    let (step, is, told) = dropped T frame ws (servers_of es) V.Clashing (left T frame c.args.self.now) d in
    record {
      step = step;
      is = is;
      told =
          told
          ∙ ap (λ xs. step ∷ steps_left T frame (servers_of xs) (reverse c.args.self.now.pending.items)) (sym stays);
      path = subst (λ xs. IsPath T frame xs) (sym stays) c.requires.path;
      cells = c.in_ok-serve.ensures.cells;
      first = c.in_ok-step.ensures.first;
      fine =
          subst (λ xs. AreFine frame (servers_of xs) (reverse c.args.self.now.pending.items)) (sym stays)
          c.requires.fine;
      complete = λ e. absurd (not_dropped T frame ws V.Clashing d e);
    }

pub returns-clause-visits : goal.returns-clause-visits
returns-clause-visits g c =
    let T = g.F.PlanFrame.table c.args.frame.now in
    let frame = g.F.PlanFrame.frame c.args.frame.now in
    let es = c.args.self.now.path.items in
    let es' = c.serve.new.path.items in
    let ps = c.args.self.now.pending.items in
    let gs = c.place_first.new.first.items in
    let on = c.in_ok-serve.ensures.served c.if-not-branch.false in
    let kept = c.in_ok-step.ensures.kept (none_is c.in_ok-step.field-0 c.in_default.not-Some) in
    let at : servers_of c.as_slice-path.result.now ++ listed c.args.server ≡ servers_of es' =
    ap (λ xs. servers_of xs ++ listed c.args.server) c.as_slice-path.ensures.value ∙ sym on.servers in
    let under : is_at_end (size frame (plan_after frame (servers_of es'))) frame.below ≡ false =
    subst (λ us. is_at_end (size frame (plan_after frame us)) frame.below ≡ false) at kept.0 in
    let placed : placed_heads frame (servers_of es') ≤ length gs =
    subst (λ us. placed_heads frame us ≤ length gs) at kept.1 in
    if_ok _ _ c.open.result
    (λ s o.
    let (step, is, told, fine) = opened T frame es es' c.args.server ps c.open.new.pending.items s gs on
    c.in_ok-step.ensures.first under placed c.requires.fine
    (subst (λ xs. Opens frame (servers_of xs) ps c.open.new.pending.items s) c.as_slice.ensures.value o) in
    record {
      step = step;
      is = is;
      told = told;
      path = on.path;
      cells = c.in_ok-serve.ensures.cells;
      first = c.in_ok-step.ensures.first;
      fine = fine;
      complete = λ e. placed;
    })
    c.open.ensures
