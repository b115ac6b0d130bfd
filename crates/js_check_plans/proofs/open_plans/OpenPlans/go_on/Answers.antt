-- An entry without a choice is forgotten, and the first choice of another one is taken.
use Rattle.std.proofs.Common.{[], ◌∷◌, ap, cond, reverse, ◌∙◌}
use Rattle.js_check_plans.specs.OpenDuties.{at_hand, pending_duties}
use Rattle.js_check_plans.proofs.DutyLemmas.{cut-path, cut-fine, none-duties, next-path, next-fine, next-duties, some-choice, valid-choice, no-choice}
use Rattle.js_check_plans.proofs.open_plans.OpenPlans.go_on.Goals as goal

pub returns-in-Some-first_choice-clause-plans : goal.returns-in-Some-first_choice-clause-plans
returns-in-Some-first_choice-clause-plans g c =
    let frame = g.F.CheckFrame.frame c.args.frame.now in
    let ws = c.loop-last.path.servers.items in
    let cut = c.in_ok-path.path.servers.items in
    let es = c.pop.new.self.items in
    let old = c.loop-last.self.pending.items in
    let choice = c.in-Some-first_choice.choice in
    let path = c.in_ok-self.field-0.servers.items in
    let pending = c.push.new.self.items in
    record {
      path = next-path frame ws cut es old c.in-Some.last c.in-Some.ensures.items c.in_ok-path.ensures
          c.loop-last.invariant.fine choice.server choice.rest path pending c.in_ok-self.ensures
          c.in_ok-push.ensures.items c.loop-last.invariant.path
          (valid-choice frame cut c.first_choice.result choice c.in-Some-first_choice.is
          c.first_choice.ensures.valid);
      fine = next-fine frame ws cut es old c.in-Some.last c.in-Some.ensures.items c.in_ok-path.ensures
          c.loop-last.invariant.fine choice.server choice.rest path pending c.in_ok-self.ensures
          c.in_ok-push.ensures.items;
    }

pub returns-in-Some-first_choice-clause-duties : goal.returns-in-Some-first_choice-clause-duties
returns-in-Some-first_choice-clause-duties g c = λ form.
    let frame = g.F.CheckFrame.frame c.args.frame.now in
    let cut = c.in_ok-path.path.servers.items in
    let choice = c.in-Some-first_choice.choice in
    let path = c.in_ok-self.field-0.servers.items in
    let pending = c.push.new.self.items in
    ap (λ b. cond b (at_hand form frame path ∷ pending_duties form frame path (reverse pending)) [])
    c.loop-last.invariant.has_plan
    ∙ next-duties frame c.loop-last.path.servers.items cut c.pop.new.self.items c.loop-last.self.pending.items
    c.in-Some.last c.in-Some.ensures.items c.in_ok-path.ensures c.loop-last.invariant.fine choice.server choice.rest
    path pending c.in_ok-self.ensures c.in_ok-push.ensures.items form
    (some-choice frame cut c.first_choice.result choice c.in-Some.last.next c.in-Some-first_choice.is
    c.first_choice.ensures.choices)
    ∙ c.loop-last.invariant.left form

pub loop-last-preserved : goal.loop-last-preserved
loop-last-preserved g c =
    let frame = g.F.CheckFrame.frame c.args.frame.now in
    let ws = c.loop-last.path.servers.items in
    let cut = c.in_ok-path.path.servers.items in
    let es = c.pop.new.self.items in
    let old = c.loop-last.self.pending.items in
    record {
      path = cut-path frame ws cut es old c.in-Some.last c.in-Some.ensures.items c.in_ok-path.ensures
          c.loop-last.invariant.fine c.loop-last.invariant.path;
      fine = cut-fine frame ws cut es old c.in-Some.last c.in-Some.ensures.items c.in_ok-path.ensures
          c.loop-last.invariant.fine;
      left = λ form.
          none-duties frame ws cut es old c.in-Some.last c.in-Some.ensures.items c.in_ok-path.ensures
          c.loop-last.invariant.fine form
          (no-choice frame cut c.first_choice.result c.in-Some.last.next c.in_default-first_choice.is
          c.first_choice.ensures.choices)
          ∙ c.loop-last.invariant.left form;
      has_plan = c.loop-last.invariant.has_plan;
      empty = c.loop-last.invariant.empty;
    }
