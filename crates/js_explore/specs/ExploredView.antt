-- What the program's values found and answered.
use Rattle.std.specs.Prelude.{map, length, option_map}
use Rattle.search.specs.Explored.{Found, found}
use Rattle.js_expansion.specs.View.{limit_view}
use Rattle.js_explore.specs.NumberedView.{numbered_view}
use Rattle.js_explore.specs.Exploration as X
use Rattle.js_explore.specs.declared.explored.Answer.{Answer}
use Rattle.js_explore.specs.declared.explored.Explored.{Explored}

abbrev pub answer_view : Answer → X.Answer
answer_view a = record { alternatives = map numbered_view a.alternatives.items; hole = option_map limit_view a.hole }

abbrev pub found_view : Explored → Found
found_view e = found e.goals.keys (length e.answers.items) e.places (option_map limit_view e.over)

abbrev pub explored_view : Explored → X.Exploration
explored_view e = X.exploration (found_view e) (map answer_view e.answers.items)
