-- The options in the place of the plan at hand.
use Rattle.std.proofs.Common.{◌≡◌, ◌<◌, ◌∷◌, [], length, cond, arith, ap, ◌∙◌}
use Rattle.std.proofs.lemmas.List.{length-map}
use Rattle.certificate_lines.specs.Line as L
use Rattle.js_algebra.specs.View.{signed_view}
use Rattle.verdicts.specs.Duties.{run}
use Rattle.verdicts.specs.Verdict.{cites}
use Rattle.js_check_plans.specs.OpenDuties.{at_hand, others, duties}
use Rattle.js_check_plans.proofs.DutyLemmas.{split-fine, split-duties}
use Rattle.js_check_plans.proofs.open_plans.OpenPlans.split.Goals as goal

pub go_on-requires-clause-plans : goal.go_on-requires-clause-plans
go_on-requires-clause-plans g c =
    let frame = g.F.CheckFrame.frame c.args.frame.now in
    let ws = c.args.self.now.path.servers.items in
    let l : length ws < length frame.demands = omega (
      arith,
      c.requires.plans.path.few,
      c.if-len-demands.false,
      c.len.ensures,
      ap length c.demands.ensures,
      length-map c.demands.result.now signed_view,
    ) in
    let count : c.len-level.result ≡ length ws = omega (arith, c.len-level.ensures) in
    record {
      path = c.requires.plans.path;
      fine =
          split-fine frame ws c.args.self.now.pending.items c.push.new.self.items c.len-level.result l
          count c.in_ok-push.ensures.items c.requires.plans.fine;
    }

pub returns-clause-taken : goal.returns-clause-taken
returns-clause-taken g c = λ form gs.
    let T = g.F.CheckFrame.table c.args.frame.now in
    let frame = g.F.CheckFrame.frame c.args.frame.now in
    let ws = c.args.self.now.path.servers.items in
    let l : length ws < length frame.demands = omega (
      arith,
      c.requires.plans.path.few,
      c.if-len-demands.false,
      c.len.ensures,
      ap length c.demands.ensures,
      length-map c.demands.result.now signed_view,
    ) in
    let count : c.len-level.result ≡ length ws = omega (arith, c.len-level.ensures) in
    ap (λ b. run T (cites gs) (cond b (at_hand form frame ws ∷ others form frame c.args.self.now) []) (L.Split ∷ []))
    c.requires.left
    ∙ split-duties frame ws c.args.self.now.pending.items c.push.new.self.items c.len-level.result l count
    c.in_ok-push.ensures.items T (cites gs) form (duties form frame c.go_on.new.self)
    (c.in_ok-go_on.ensures.duties form)
