-- What is still to be shown at each stage.
use Rattle.std.specs.Prelude.{List, map}
use Rattle.verdicts.specs.Duties.{Duty, OfObjects, OfRows, OfBounds, ForCells}
use Rattle.js_algebra.specs.View.{signed_view}
use Rattle.js_check_rows.specs.RowsView.{count_of, table_of}
use Rattle.js_check_plans.specs.OpenDuties.{duties}
use Rattle.js_check_objects.specs.Bounds.{bounds_in}
use Rattle.js_check_objects.specs.FrameView.{frame_view}
use Rattle.js_check_objects.specs.declared.open_rows.OpenRows.{OpenRows}
use Rattle.js_check_objects.specs.declared.open_bounds.OpenBounds.{OpenBounds}
use Rattle.js_check_objects.specs.declared.open_plan.OpenPlan.{OpenPlan}

abbrev pub rows_duty : OpenRows → Duty
rows_duty x = OfRows (ForCells x.bounds) (map signed_view x.set.items) (count_of x.rows) (table_of x.rows)

abbrev pub bounds_duty : OpenBounds → Duty
bounds_duty x = OfBounds (map signed_view x.set.items) (table_of x.rows) x.left (bounds_in x.stated.items)

abbrev pub plan_duties_of : OpenPlan → List Duty
plan_duties_of x = duties OfObjects (frame_view x.frame) x.plans
