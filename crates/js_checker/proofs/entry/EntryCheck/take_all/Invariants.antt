-- The lines so far led to what is left of the goal.
use Rattle.std.proofs.Common.{◌≡◌, map, take, Ok}
use Rattle.verdicts.specs.Duties.{run}
use Rattle.verdicts.specs.Verdict.{cites}
use Rattle.js_lines.specs.View.{line_view}
use Rattle.js_checker.specs.TreeView.{IsOver, IsSteady}
use Rattle.js_checker.specs.EntryView.{goal_duties}
use Rattle.js_checker.proofs.entry.EntryCheck.take_all.Given as goal

abbrev pub invariant-loop-line : goal.invariant-loop-line
invariant-loop-line l = record {
  led : run l.core.positions (cites l.goals) (goal_duties l.goal l.fn.self)
      (map line_view (take l.line-index l.lines)) ≡ Ok (goal_duties l.goal l.self);
  over : IsOver l.core.positions l.self.tree;
  steady : IsSteady l.self.tree;
}
