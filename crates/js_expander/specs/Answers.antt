-- What the answer for a branch stands for.
use Rattle.std.specs.Prelude.{List, Result, Ok, Err}
use Rattle.alternatives.specs.Alternative.{Alternative}
use Rattle.alternatives.specs.Limit as L
use Rattle.js_expansion.specs.View.{limit_view}
use Rattle.js_expansion.specs.declared.expansion.LimitKind.{LimitKind}
use Rattle.js_expansion.specs.declared.expansion.Leaf.{Leaf}

abbrev pub answer_view : Result Leaf LimitKind → Result (List Alternative) L.LimitKind
answer_view (Ok l) = Ok l.alternatives
answer_view (Err k) = Err (limit_view k)
