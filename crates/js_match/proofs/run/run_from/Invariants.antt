use Rattle.std.proofs.Common.{◌≡◌, ℕ, ◌≤◌, ◌&&◌, nat_lt, length}
use Rattle.js_match.specs.Places.{is_at}
use Rattle.js_match.specs.Runs.{begins, is_lone_end}
use Rattle.js_match.proofs.run.run_from.Given as goal

abbrev pub invariant-loop-end : goal.invariant-loop-end
invariant-loop-end l = record {
  start : l.start ≤ l.end;
  from : l.end ≤ length l.word → begins l.set l.word l.end ≤ l.start;
  ends : (j : ℕ) → is_at j l.ends.items ≡ (nat_lt j l.end && is_lone_end l.set l.word l.start l.low l.high j);
}
