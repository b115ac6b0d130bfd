-- What is seen of an object: the table, and what is still to be shown.
use Rattle.std.specs.Prelude.{List}
use Rattle.positions.specs.Position.{Position}
use Rattle.verdicts.specs.Duties.{Duty}
use Rattle.js_check_objects.specs.StageView.{stage_table, stage_duties}
use Rattle.js_check_objects.specs.declared.open_object.OpenObject.{OpenObject}

abbrev pub table_of : OpenObject → List Position
table_of x = stage_table x.stage

abbrev pub duties_of : OpenObject → List Duty
duties_of x = stage_duties x.stage
