use Rattle.std.proofs.Common.{◌≡◌}
use Rattle.state_laws.specs.Flow.{flag_at}
use Rattle.js_nfa.specs.FollowSets.{by_fours}
use Rattle.js_nfa.proofs.follow_sets.FollowSets.follow_all.Given as goal

abbrev pub invariant-loop-four : goal.invariant-loop-four
invariant-loop-four l = record {
  room : l.reads.room ≡ l.initial.reads.room;
  flags : l.reads.flags ≡ by_fours l.self.always.flags l.self.fours.items (flag_at l.read.flags) l.four;
}
