use Rattle.std.proofs.Common.{◌≡◌, ℕ, ◌-◌, ◌≤◌, ◌&&◌, nat_lt, length}
use Rattle.js_match.specs.Places.{is_at}
use Rattle.js_match.specs.Runs.{begins, latest, is_end}
use Rattle.js_match.proofs.run.run_ends.Given as goal

abbrev pub invariant-loop-end : goal.invariant-loop-end
invariant-loop-end l = record {
  from : l.end ≤ length l.word → l.from ≡ begins l.set l.word l.end;
  last : l.last ≡ latest l.marks (l.end - l.low);
  ends : (j : ℕ) → is_at j l.ends.items ≡ (nat_lt j l.end && is_end l.set l.word l.marks l.low l.high j);
}
