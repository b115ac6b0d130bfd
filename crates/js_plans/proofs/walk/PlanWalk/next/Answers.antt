-- The next plan.
use Rattle.std.proofs.Common.{◌≡◌, ◌+◌, [], reverse, take, length, arith, ap, ap₂, sym, ◌∙◌, subst}
use Rattle.std.proofs.lemmas.List.{length-reverse}
use Rattle.frames.specs.Plan.{ends}
use Rattle.js_plans.specs.Servers.{cells_of, servers_of, AreExtents}
use Rattle.js_plans.specs.Walks.{IsPath, is_end, one_more, left}
use Rattle.js_plans.proofs.Remaining.{servers-take, path-take, fine-next, left-next, left-ends, told-ends}
use Rattle.js_plans.proofs.Extents.{extents-take, cells-before}
use Rattle.js_plans.proofs.walk.PlanWalk.next.Goals as goal

pub of-extent-requires : goal.of-extent-requires
of-extent-requires g c =
    subst (AreExtents []) (sym c.as_slice.ensures.value)
    (subst (AreExtents []) (sym c.truncate.ensures.items)
    (extents-take c.in-Some.next.level [] c.args.self.now.path.items c.requires.path.extents))

pub visit-requires-clause-path : goal.visit-requires-clause-path
visit-requires-clause-path g c =
    let T = g.F.PlanFrame.table c.args.frame.now in
    let frame = g.F.PlanFrame.frame c.args.frame.now in
    subst (λ es. IsPath T frame es) (sym c.truncate.ensures.items)
    (path-take T frame c.in-Some.next.level c.args.self.now.path.items c.requires.path)

pub visit-requires-clause-cells : goal.visit-requires-clause-cells
visit-requires-clause-cells g c =
    let T = g.F.PlanFrame.table c.args.frame.now in
    let frame = g.F.PlanFrame.frame c.args.frame.now in
    let n = c.in-Some.next.level in
    let ws = servers_of c.args.self.now.path.items in
    let cut : servers_of c.truncate.new.self.items ≡ take n ws =
    ap servers_of c.truncate.ensures.items ∙ servers-take T frame n c.args.self.now.path.items in
    c.truncate-2.ensures.items
    ∙ ap₂ (λ m cs. take m cs)
    (c.of-extent.ensures.members
    ∙ ap (λ es. length (cells_of (servers_of es))) c.as_slice.ensures.value
    ∙ ap (λ us. length (cells_of us)) cut)
    c.requires.cells
    ∙ cells-before n ws
    ∙ ap cells_of (sym cut)

pub visit-requires-clause-fits : goal.visit-requires-clause-fits
visit-requires-clause-fits g c =
    let T = g.F.PlanFrame.table c.args.frame.now in
    let frame = g.F.PlanFrame.frame c.args.frame.now in
    (fine-next T frame c.args.self.now.path.items c.truncate.new.self.items c.pop.new.self.items
    c.args.self.now.pending.items c.in-Some.next c.in-Some.ensures.items c.truncate.ensures.items c.requires.fine).0

pub visit-requires-clause-fine : goal.visit-requires-clause-fine
visit-requires-clause-fine g c =
    let T = g.F.PlanFrame.table c.args.frame.now in
    let frame = g.F.PlanFrame.frame c.args.frame.now in
    (fine-next T frame c.args.self.now.path.items c.truncate.new.self.items c.pop.new.self.items
    c.args.self.now.pending.items c.in-Some.next c.in-Some.ensures.items c.truncate.ensures.items c.requires.fine).1

pub returns-then-self-len-gt-MOST_PLANS-clause-limit : goal.returns-then-self-len-gt-MOST_PLANS-clause-limit
returns-then-self-len-gt-MOST_PLANS-clause-limit g c = λ _.
    let T = g.F.PlanFrame.table c.args.frame.now in
    let frame = g.F.PlanFrame.frame c.args.frame.now in
    let v = c.in_ok-step.ensures.visits in
    let told = left-next T frame c.args.self.now.path.items c.truncate.new.self.items c.pop.new.self.items
    c.args.self.now.pending.items c.in-Some.next c.in-Some.ensures.items c.truncate.ensures.items ∙ v.told in
    let all = told-ends T frame (servers_of c.visit.new.self.path.items) c.in_ok-step.step v.step c.args.self.now.ends
    (left T frame c.visit.new.self) v.is in
    let sum : c.with_end-self.result + ends (left T frame c.visit.new.self)
    ≡ c.args.self.now.ends + ends (left T frame c.args.self.now) =
    ap (λ n. n + ends (left T frame c.visit.new.self))
    (c.with_end-self.ensures ∙ ap (one_more (is_end c.in_ok-step.step)) c.in_ok-step.ensures.ends)
    ∙ all ∙ ap (λ ss. c.args.self.now.ends + ends ss) (sym told) in
    let rest = left-ends T frame (servers_of c.visit.new.self.path.items) (reverse c.visit.new.self.pending.items) in
    omega (
      arith,
      c.if-self-len-gt-MOST_PLANS.true,
      c.len.ensures,
      length-reverse c.visit.new.self.pending.items,
      rest,
      sum,
    )

pub returns-clause-told : goal.returns-clause-told
returns-clause-told g c =
    let T = g.F.PlanFrame.table c.args.frame.now in
    let frame = g.F.PlanFrame.frame c.args.frame.now in
    let v = c.in_ok-step.ensures.visits in
    let told = left-next T frame c.args.self.now.path.items c.truncate.new.self.items c.pop.new.self.items
    c.args.self.now.pending.items c.in-Some.next c.in-Some.ensures.items c.truncate.ensures.items ∙ v.told in
    let all = told-ends T frame (servers_of c.visit.new.self.path.items) c.in_ok-step.step v.step c.args.self.now.ends
    (left T frame c.visit.new.self) v.is in
    record {
      step = v.step;
      is = v.is;
      told = told;
      ends =
          ap (λ n. n + ends (left T frame c.visit.new.self))
          (c.with_end-self.ensures ∙ ap (one_more (is_end c.in_ok-step.step)) c.in_ok-step.ensures.ends)
          ∙ all ∙ ap (λ ss. c.args.self.now.ends + ends ss) (sym told);
      complete = v.complete;
    }
