-- The frame that a frame of objects stands for.
use Rattle.std.specs.Prelude.{map}
use Rattle.frames.specs.Frame.{Frame}
use Rattle.frames.specs.ObjectFrame.{object_frame}
use Rattle.js_algebra.specs.View.{signed_view}
use Rattle.js_cells.specs.View.{cells_view}
use Rattle.js_objects.specs.declared.object_frame.ObjectFrame.{ObjectFrame}

abbrev pub frame_view : ObjectFrame → Frame
frame_view x = object_frame x.core.now.positions (cells_view x.cells) (map signed_view x.set.now)
