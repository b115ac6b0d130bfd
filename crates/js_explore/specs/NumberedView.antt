-- The alternatives with numbers that the program's values stand for.
use Rattle.search.specs.Rounds as R
use Rattle.js_algebra.specs.View.{kind_view}
use Rattle.js_expansion.specs.View.{shape_view}
use Rattle.js_explore.specs.declared.numbered.Numbered.{Numbered}

abbrev pub numbered_view : Numbered → R.Numbered
numbered_view a = record {
  kind = kind_view a.branch.kind;
  branch = a.branch.number;
  shape = shape_view a.shape;
  members = a.members;
  need = a.need;
  fillers = a.fillers;
}
