-- The cells so far, and those that are left.
use Rattle.std.proofs.Common.{◌≡◌, ◌++◌, filter, drop, is_some}
use Rattle.refutations.specs.ObjectLines as O
use Rattle.js_objects.specs.FrameView.{frame_view}
use Rattle.js_goal_lines.proofs.objects.capped.Given as goal

abbrev pub invariant-loop-cell : goal.invariant-loop-cell
invariant-loop-cell l =
    let frame = frame_view l.frame in
    l.capped.items ++ filter (λ c. is_some (frame.cap c)) (drop l.cell-index frame.cells) ≡ O.capped frame
