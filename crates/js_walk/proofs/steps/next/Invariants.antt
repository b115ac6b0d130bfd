use Rattle.std.proofs.Common.{◌≡◌}
use Rattle.schemas.specs.Walk.{next_of}
use Rattle.js_pointers.specs.PointersView.{pointers_of}
use Rattle.js_walk.specs.Visiting.{AreWithin}
use Rattle.js_walk.specs.Walking.{done_places, stack_view}
use Rattle.js_walk.proofs.steps.next.Given as goal

abbrev pub invariant-loop-place : goal.invariant-loop-place
invariant-loop-place l = record {
  within : AreWithin (pointers_of l.fn.walked.pointers) l.waiting.items;
  next : next_of (done_places (pointers_of l.fn.walked.pointers) l.fn.walked.done)
      (stack_view (pointers_of l.fn.walked.pointers) l.waiting.items)
      ≡ next_of (done_places (pointers_of l.fn.walked.pointers) l.fn.walked.done)
      (stack_view (pointers_of l.fn.walked.pointers) l.fn.waiting.items);
}

abbrev pub decreases-loop-place : goal.decreases-loop-place
decreases-loop-place l = goal.left-loop-place l
