-- No line waits, and each piece gave one line at the most.
use Rattle.std.proofs.Common.{◌≡◌, ◌≤◌, None}
use Rattle.low_tests.proofs.lines.read_back.Given as goal

abbrev pub invariant-loop-turn : goal.invariant-loop-turn
invariant-loop-turn l = record { idle : l.reader.waiting ≡ None; few : l.reader.taken ≤ l._turn }
