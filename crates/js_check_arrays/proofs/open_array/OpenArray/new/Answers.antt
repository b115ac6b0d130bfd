-- The plan that serves nothing is one of the frame.
use Rattle.js_check_arrays.specs.FrameView.{frame_view}
use Rattle.js_check_arrays.proofs.open_array.OpenArray.new.Goals as goal

pub invariant_of-result : goal.invariant_of-result
invariant_of-result c = record { are_plans = c.new-2.ensures.plans (frame_view c.in_ok-frame.frame) }
