use Rattle.std.proofs.Common.{[], get_or, ap, sym, ◌∙◌, arith, lit≤}
use Rattle.std.proofs.lemmas.Result.{err_from_is_err_and}
use Rattle.js_pointers.specs.PointersView.{pointers_of}
use Rattle.js_pointers.proofs.PointersLaws.{pointers_of-root}
use Rattle.js_walk.specs.FileView.{root_of}
use Rattle.js_walk.specs.Walking.{done_places, stack_view}
use Rattle.js_walk.proofs.ChildrenLemmas.{one_place}
use Rattle.js_walk.proofs.KeepingLemmas.{kept-first, targets-seen}
use Rattle.js_walk.proofs.WalkLemmas.{alone, begun, unmet, passed, fewer, tells, ended}
use Rattle.js_walk.proofs.steps.walk.Goals as goal

pub loop-place-init : goal.loop-place-init
loop-place-init c =
    let root = root_of c.args.file.now in
    let ps = pointers_of c.new.result in
    let start = pointers_of-root c.new.result in
    let some = start.0 in
    let first = c.root_place.ensures.pointer in
    let place = one_place (ap (λ n. get_or ps n []) first ∙ start.1) c.root_place.ensures.value in
    record {
      reading =
          begun root (done_places ps c.new-2.result) (stack_view ps c.push.new.self.items)
          (ap (done_places ps) c.new-2.ensures)
          (alone root ps c.root_place.result c.new-waiting.result.items c.push.new.self.items
          c.in_ok-push.ensures.items c.new-waiting.ensures.items place);
      light = lit≤ tt;
      kept =
          kept-first root ps c.new-2.result c.new-waiting.result.items c.push.new.self.items
          c.root_place.result c.new-2.ensures c.in_ok-push.ensures.items c.new-waiting.ensures.items
          (omega (arith, some, first));
    }

pub pass-requires-clause-first : goal.pass-requires-clause-first
pass-requires-clause-first c =
    unmet (root_of c.args.file.now) _ _ _ _ _ c.loop-place.invariant.reading c.in-Some.ensures.next

pub returns-in_err-pass-clause-fault : goal.returns-in_err-pass-clause-fault
returns-in_err-pass-clause-fault c =
    let p = err_from_is_err_and c.from_residual-in_err-pass.result c.from_residual-in_err-pass.ensures.1 in
    rw (p.1, p.2)
    (tells (root_of c.args.file.now) _ _ _ _ _ _ c.loop-place.invariant.reading c.in-Some.ensures.next
    c.in_err-pass.ensures.fault)

pub loop-place-smaller : goal.loop-place-smaller
loop-place-smaller c =
    fewer (root_of c.args.file.now) _ _ _ _ _ _ _ _ c.loop-place.invariant.reading c.in-Some.ensures.next
    c.in_ok-pass.ensures.ok

pub loop-place-preserved : goal.loop-place-preserved
loop-place-preserved c = record {
  reading =
      passed (root_of c.args.file.now) _ _ _ _ _ _ _ _ c.loop-place.invariant.reading c.in-Some.ensures.next
      c.in_ok-pass.ensures.ok;
  light = let p = c.in_ok-pass.ensures.ok in p.light;
  kept = c.in_ok-pass.ensures.kept;
}

pub returns-clause-ok : goal.returns-clause-ok
returns-clause-ok c =
    let end = ended (root_of c.args.file.now) _ _ _ c.loop-place.invariant.reading c.in_default.ensures.next in
    (end.0, end.1 ∙ sym c.new-3.ensures.places)

pub returns-clause-targets : goal.returns-clause-targets
returns-clause-targets c =
    let kept = c.loop-place.invariant.kept in
    targets-seen (root_of c.args.file.now) _ _ _ _ _ c.new-3.ensures.pointers c.new-3.ensures.places
    c.new-3.ensures.targets kept.settled
