-- The explored goals that no round has.
use Rattle.std.specs.Prelude.{ℕ, List, cond, Option, Some, None, is_some}
use Rattle.positions.specs.Position.{Position}
use Rattle.goals.specs.Signed.{Signed}
use Rattle.search.specs.Explored.{number_in}
use Rattle.certificate_lines.specs.Line.{Line}
use Rattle.refutations.specs.GoalLines.{goal_lines}
use Rattle.js_explore.specs.ExploredView.{explored_view}
use Rattle.js_rounds.specs.declared.rounds.Rounds.{Rounds}
use Rattle.js_rounds.specs.State.{answer_to}
use Rattle.js_refute.specs.declared.unmet.Unmet.{Unmet}

-- the number, where it has no answer
abbrev pub unless_answered : Rounds → Option ℕ → Option ℕ
unless_answered r None = None
unless_answered r (Some n) = cond (is_some (answer_to r n)) None (Some n)

abbrev pub goals_of : Unmet → List (List Signed)
goals_of u = (explored_view u.explored.now).found.goals

-- the number of an explored goal without an answer; other goals have none
abbrev pub number_of : Unmet → List Signed → Option ℕ
number_of u g = unless_answered u.rounds.now (number_in (goals_of u) g)

abbrev pub lines_of : List Position → Unmet → List Signed → List Line
lines_of T u = goal_lines (number_of u) T
