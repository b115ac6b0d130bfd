-- The lines so far, and those of the kinds that are left.
use Rattle.std.proofs.Common.{◌≡◌, ◌++◌, map, flat_map, drop}
use Rattle.refutations.specs.GoalLines.{kind_lines, goal_lines}
use Rattle.js_algebra.specs.View.{kind_view}
use Rattle.js_lines.specs.View.{line_view}
use Rattle.js_goal_lines.proofs.goal.add_goal_lines.Given as goal

abbrev pub invariant-loop-kind : goal.invariant-loop-kind
invariant-loop-kind g l =
    let number = g.D.Dead.number_of l.dead in
    let T = l.core.positions in
    map line_view l.lines.items
    ++ flat_map (kind_lines number T l.goal) (map kind_view (drop l.kind-index l.kind-items))
    ≡ map line_view l.fn.lines.items ++ goal_lines number T l.goal
