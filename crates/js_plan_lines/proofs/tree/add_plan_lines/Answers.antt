-- The lines so far, and those of the plans that are left.
use Rattle.std.proofs.Common.{[], map, ap, sym, ◌∙◌, subst}
use Rattle.js_lines.specs.View.{line_view}
use Rattle.js_plans.specs.Servers.{cells_of}
use Rattle.js_plan_lines.specs.FormView.{form_view}
use Rattle.js_plan_lines.specs.Reach.{IsPath, AreExtents}
use Rattle.js_plan_lines.specs.Kept.{WasClear}
use Rattle.js_plan_lines.specs.Left.{Visits}
use Rattle.js_plan_lines.proofs.Extents.{extents-none}
use Rattle.js_plan_lines.proofs.Walking.{empty-path, next-level, first-fine, first-clear, first-lines, next-path, next-was, next-fine, next-clear, next-lines, next-fewer}
use Rattle.js_plan_lines.proofs.tree.add_plan_lines.Goals as goal

pub loop-next-init : goal.loop-next-init
loop-next-init g c =
    let number = g.D.Dead.number_of c.args.dead.now in
    let form = form_view c.args.form in
    let T = g.F.PlanFrame.table c.args.frame.now in
    let frame = g.F.PlanFrame.frame c.args.frame.now in
    let ws = c.new-path.result.items in
    let ps = c.new-pending.result.items in
    let qs = c.visit.new.pending.items in
    let before = map line_view c.args.lines.now.items in
    let now = map line_view c.visit.new.lines.items in
    let v : Visits number form T frame ws ps qs before now =
    subst (λ us. Visits number form T frame us ps qs before now) c.as_slice.ensures.value c.in_ok-visit.ensures in
    record {
      path = empty-path frame ws c.new-path.ensures.items;
      extents = extents-none [] ws c.new-extents.result.items c.new-path.ensures.items;
      members = c.new-members.ensures.items ∙ ap cells_of (sym c.new-path.ensures.items);
      fine = first-fine number form T frame ws ps qs before now c.new-path.ensures.items c.new-pending.ensures.items v;
      clear =
          first-clear number form T frame ws ps qs before now c.new-path.ensures.items c.new-pending.ensures.items v;
      lines =
          first-lines number form T frame ws ps qs before now c.new-path.ensures.items c.new-pending.ensures.items v;
    }

pub visit-requires-clause-extents : goal.visit-requires-clause-extents
visit-requires-clause-extents g c =
    extents-none [] c.as_slice.result.now c.as_slice-2.result.now (c.as_slice.ensures.value ∙ c.new-path.ensures.items)

pub visit-requires-clause-members : goal.visit-requires-clause-members
visit-requires-clause-members g c =
    c.as_slice-3.ensures.value
    ∙ c.new-members.ensures.items
    ∙ ap cells_of (sym (c.as_slice.ensures.value ∙ c.new-path.ensures.items))

pub go_to-requires-clause-level : goal.go_to-requires-clause-level
go_to-requires-clause-level g c =
    next-level (g.D.Dead.number_of c.args.dead.now) (form_view c.args.form) (g.F.PlanFrame.table c.args.frame.now)
    (g.F.PlanFrame.frame c.args.frame.now) c.loop-next.path.items c.pop.new.self.items c.loop-next.pending.items
    c.in-Some.next c.in-Some.ensures.items c.loop-next.invariant.fine

pub visit-requires-in-Some-clause-extents : goal.visit-requires-in-Some-clause-extents
visit-requires-in-Some-clause-extents g c =
    subst (λ us. AreExtents [] us c.as_slice-in-Some-2.result.now) (sym c.as_slice-in-Some.ensures.value)
    (subst (λ xs. AreExtents [] c.go_to.new.path.items xs) (sym c.as_slice-in-Some-2.ensures.value)
    c.in_ok-go_to.ensures.extents)

pub visit-requires-in-Some-clause-members : goal.visit-requires-in-Some-clause-members
visit-requires-in-Some-clause-members g c =
    c.as_slice-in-Some-3.ensures.value
    ∙ c.in_ok-go_to.ensures.members
    ∙ ap cells_of (sym c.as_slice-in-Some.ensures.value)

pub visit-requires-in-Some-clause-path : goal.visit-requires-in-Some-clause-path
visit-requires-in-Some-clause-path g c =
    let frame = g.F.PlanFrame.frame c.args.frame.now in
    subst (IsPath frame) (sym c.as_slice-in-Some.ensures.value)
    (next-path (g.D.Dead.number_of c.args.dead.now) (form_view c.args.form) (g.F.PlanFrame.table c.args.frame.now)
    frame c.loop-next.path.items c.go_to.new.path.items c.pop.new.self.items c.loop-next.pending.items c.in-Some.next
    c.in-Some.ensures.items c.in_ok-go_to.ensures.path c.loop-next.invariant.fine c.loop-next.invariant.path)

pub visit-requires-in-Some-clause-clear : goal.visit-requires-in-Some-clause-clear
visit-requires-in-Some-clause-clear g c =
    let T = g.F.PlanFrame.table c.args.frame.now in
    let frame = g.F.PlanFrame.frame c.args.frame.now in
    subst (WasClear T frame) (sym c.as_slice-in-Some.ensures.value)
    (next-was (g.D.Dead.number_of c.args.dead.now) (form_view c.args.form) T
    frame c.loop-next.path.items c.go_to.new.path.items c.pop.new.self.items c.loop-next.pending.items c.in-Some.next
    c.in-Some.ensures.items c.in_ok-go_to.ensures.path c.loop-next.invariant.fine c.loop-next.invariant.clear)

pub loop-next-smaller : goal.loop-next-smaller
loop-next-smaller g c =
    let number = g.D.Dead.number_of c.args.dead.now in
    let form = form_view c.args.form in
    let T = g.F.PlanFrame.table c.args.frame.now in
    let frame = g.F.PlanFrame.frame c.args.frame.now in
    let es = c.pop.new.self.items in
    let qs = c.visit-in-Some.new.pending.items in
    let before = map line_view c.loop-next.lines.items in
    let now = map line_view c.visit-in-Some.new.lines.items in
    let v : Visits number form T frame c.go_to.new.path.items es qs before now =
    subst (λ us. Visits number form T frame us es qs before now) c.as_slice-in-Some.ensures.value
    c.in_ok-visit-2.ensures in
    next-fewer number form T frame c.loop-next.path.items c.go_to.new.path.items es c.loop-next.pending.items
    c.in-Some.next c.in-Some.ensures.items c.in_ok-go_to.ensures.path c.loop-next.invariant.fine qs before now now v

pub loop-next-preserved : goal.loop-next-preserved
loop-next-preserved g c =
    let number = g.D.Dead.number_of c.args.dead.now in
    let form = form_view c.args.form in
    let T = g.F.PlanFrame.table c.args.frame.now in
    let frame = g.F.PlanFrame.frame c.args.frame.now in
    let path = c.loop-next.path.items in
    let path' = c.go_to.new.path.items in
    let es = c.pop.new.self.items in
    let old = c.loop-next.pending.items in
    let qs = c.visit-in-Some.new.pending.items in
    let before = map line_view c.loop-next.lines.items in
    let now = map line_view c.visit-in-Some.new.lines.items in
    let v : Visits number form T frame path' es qs before now =
    subst (λ us. Visits number form T frame us es qs before now) c.as_slice-in-Some.ensures.value
    c.in_ok-visit-2.ensures in
    record {
      path = next-path number form T frame path path' es old c.in-Some.next c.in-Some.ensures.items
          c.in_ok-go_to.ensures.path c.loop-next.invariant.fine c.loop-next.invariant.path;
      extents = c.in_ok-go_to.ensures.extents;
      members = c.in_ok-go_to.ensures.members;
      fine = next-fine number form T frame path path' es old c.in-Some.next c.in-Some.ensures.items
          c.in_ok-go_to.ensures.path c.loop-next.invariant.fine qs before now now v;
      clear = next-clear number form T frame path path' es old c.in-Some.next c.in-Some.ensures.items
          c.in_ok-go_to.ensures.path c.loop-next.invariant.fine qs before now now v c.loop-next.invariant.clear;
      lines = next-lines number form T frame path path' es old c.in-Some.next c.in-Some.ensures.items
          c.in_ok-go_to.ensures.path c.loop-next.invariant.fine qs before now _ v c.loop-next.invariant.lines;
    }
