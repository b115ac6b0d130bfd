-- The plans are those of the frame of the cells that are found.
use Rattle.std.proofs.Common.{map, ap, subst, arith}
use Rattle.documents.specs.Kind as K
use Rattle.frames.specs.Frame.{Frame}
use Rattle.expansions.specs.Leaves.{by_name, plan_alternative, by_plans}
use Rattle.finders.specs.Names.{cells_of}
use Rattle.js_algebra.specs.View.{signed_view}
use Rattle.js_objects.specs.FrameView.{frame_view}
use Rattle.js_objects.specs.Leaves.{Says, planned_leaf}
use Rattle.js_objects.specs.Steps.{cells_by}
use Rattle.js_objects.proofs.LeafLaws.{memory-says, planned-is}
use Rattle.js_objects.proofs.leaf.leaf_of_names.Goals as goal

pub returns-in_err-frame : goal.returns-in_err-frame
returns-in_err-frame c =
    let T = c.args.core.now.positions in
    let S = map signed_view c.args.set.now in
    memory-says c.from_residual.result (planned_leaf T c.args.number S (cells_of T S)) c.from_residual.ensures.1

pub planned-requires : goal.planned-requires
planned-requires c =
    let e = ap (λ (z : Frame). z.lower) c.in_ok-frame.ensures.frame in
    let l = c.requires.bounds.lower in
    let n = c.requires.bounds.few in
    omega (arith, e, l, n)

pub returns : goal.returns
returns c =
    let T = c.args.core.now.positions in
    let S = map signed_view c.args.set.now in
    let k = c.args.number in
    let f = c.in_ok-frame.frame in
    subst (λ a. Says a c.planned.result)
    (planned-is T k S (cells_of T S) (cells_by T S c.args.automaton.now) c.requires.automaton.found (frame_view f)
    c.in_ok-frame.ensures.frame)
    (subst (λ z. Says (by_plans (plan_alternative by_name K.Object k z) z (frame_view f)) c.planned.result)
    c.in_ok-frame.ensures.table c.planned.ensures)
