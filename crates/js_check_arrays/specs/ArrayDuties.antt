-- What contracts see of the arrays of a set.
use Rattle.std.specs.Prelude.{List}
use Rattle.positions.specs.Position.{Position}
use Rattle.verdicts.specs.Duties.{Duty, OfArrays}
use Rattle.js_check_plans.specs.OpenDuties.{duties}
use Rattle.js_check_arrays.specs.declared.open_array.OpenArray.{OpenArray}
use Rattle.js_check_arrays.specs.FrameView.{frame_view}

-- the table of its positions
abbrev pub table_of : OpenArray → List Position
table_of a = a.frame.core.now.positions

-- what is still to be shown
abbrev pub duties_of : OpenArray → List Duty
duties_of a = duties OfArrays (frame_view a.frame) a.plans
