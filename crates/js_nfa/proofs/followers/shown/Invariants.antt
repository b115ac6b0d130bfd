use Rattle.std.proofs.Common.{◌≤◌}
use Rattle.js_nfa.proofs.FollowSetsSteps.{Seen}
use Rattle.js_nfa.proofs.followers.shown.Given as goal

abbrev pub invariant-loop-c : goal.invariant-loop-c
invariant-loop-c l = record {
  room : l.count ≤ l.seen.room;
  seen : Seen l.having l.seen.flags l.shown.items l.c;
}
