-- The alternatives that the program's values stand for.
use Rattle.alternatives.specs.Alternative as A
use Rattle.js_algebra.specs.View.{kind_view}
use Rattle.js_expansion.specs.declared.alternative.Alternative.{Alternative}
use Rattle.js_expansion.specs.View.{shape_view}

abbrev pub alternative_view : Alternative → A.Alternative
alternative_view a = record {
  kind = kind_view a.branch.kind;
  branch = a.branch.number;
  shape = shape_view a.shape;
  members = a.members;
  need = a.need;
  fillers = a.fillers;
}
