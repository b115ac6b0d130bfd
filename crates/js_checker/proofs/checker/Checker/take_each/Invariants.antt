-- The checker stands for the lines so far.
use Rattle.std.proofs.Common.{◌≡◌, ◌+◌, map, take, None}
use Rattle.js_lines.specs.View.{line_view}
use Rattle.js_checker.specs.CheckerView.{lines_of, fault_of, IsSameQuestion}
use Rattle.js_checker.proofs.TakingLemmas.{Took}
use Rattle.js_checker.proofs.checker.Checker.take_each.Given as goal

abbrev pub invariant-loop-line : goal.invariant-loop-line
invariant-loop-line l = record {
  stands : Took l.fn.self l.self (map line_view (take l.line-index l.lines));
  going : fault_of l.self ≡ None;
  lines : lines_of l.self ≡ lines_of l.fn.self + l.line-index;
  question : IsSameQuestion l.fn.self l.self;
}
