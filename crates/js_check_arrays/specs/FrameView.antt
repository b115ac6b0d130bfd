-- The frame that a frame of arrays stands for.
use Rattle.std.specs.Prelude.{[], ◌∷◌, map, true, None}
use Rattle.frames.specs.Frame.{Frame}
use Rattle.frames.specs.ArrayFrame as A
use Rattle.js_algebra.specs.View.{signed_view}
use Rattle.js_check_arrays.specs.declared.array_frame.ArrayFrame.{ArrayFrame}

abbrev pub frame_view : ArrayFrame → Frame
frame_view x = record {
  set = map signed_view x.set.items;
  lower = x.lower;
  below = x.below;
  floor = x.lower;
  heads = x.heads;
  demands = map signed_view x.demands.items;
  each = A.each x.core.now.positions x.heads;
  serving = A.serving x.core.now.positions x.heads;
  cells = 0 ∷ [];
  inside = λ d c. true;
  cap = λ c. None;
  room = λ c n. 65537;
}
