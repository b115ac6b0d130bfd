-- The frame that a frame of objects stands for.
use Rattle.std.specs.Prelude.{map}
use Rattle.frames.specs.Frame.{Frame}
use Rattle.frames.specs.ObjectFrame.{object_frame_with}
use Rattle.js_algebra.specs.View.{signed_view}
use Rattle.js_check_objects.specs.Bounds.{cap_at}
use Rattle.js_check_objects.specs.Cells.{cells_in}
use Rattle.js_check_objects.specs.declared.object_frame.ObjectFrame.{ObjectFrame}

abbrev pub frame_view : ObjectFrame → Frame
frame_view x =
    object_frame_with (cap_at x.caps.items) (λ c n. 0) x.core.now.positions (cells_in x.cells)
    (map signed_view x.set.items)
