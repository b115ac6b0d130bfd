-- The checker stands for the pieces so far, and is between entries where all of them were entries.
use Rattle.std.proofs.Common.{◌≡◌, ◌+◌, map, take, length, true, None}
use Rattle.js_lines.specs.View.{line_view}
use Rattle.js_checker.specs.JudgeView.{is_between}
use Rattle.js_checker.specs.CheckerView.{lines_of, fault_of, IsSameQuestion}
use Rattle.js_checker.specs.Entries.{joined}
use Rattle.js_checker.proofs.TakingLemmas.{Took}
use Rattle.js_checker.proofs.checker.Checker.join.Given as goal

abbrev pub invariant-loop-i : goal.invariant-loop-i
invariant-loop-i l = record {
  stands : Took l.fn.self l.self (map line_view (joined (take l.i l.pieces)));
  going : fault_of l.self ≡ None;
  lines : lines_of l.self ≡ lines_of l.fn.self + length (joined (take l.i l.pieces));
  question : IsSameQuestion l.fn.self l.self;
  between : l.all_entries ≡ true → is_between l.self.judge ≡ true;
  goals : l.all_entries ≡ true → l.self.judge.goals.items ≡ l.fn.self.judge.goals.items;
}
