use Rattle.std.proofs.Common.{◌≡◌, ◌+◌, ◌-◌, ◌*◌, length, map}
use Rattle.patterns.specs.Tree.{trees_of}
use Rattle.word_states.specs.Position.{count_of, count_in}
use Rattle.state_laws.specs.Flow.{flag_at}
use Rattle.js_pattern.specs.View.{view, list_view}
use Rattle.js_pattern_positions.specs.Walk.{nodes, list_nodes}
use Rattle.js_pattern_positions.proofs.Items.{rest}
use Rattle.js_nfa.proofs.FollowSteps.{InTurn, OfOne, Copies, Again}
use Rattle.js_nfa.proofs.follow.+follow.Given as goal

abbrev pub decreases-follow : goal.decreases-follow
decreases-follow l = 3 * nodes (view l.re.now)

abbrev pub decreases-follow_in_turn : goal.decreases-follow_in_turn
decreases-follow_in_turn l = 3 * list_nodes (list_view l.list.now)

abbrev pub decreases-follow_of_one : goal.decreases-follow_of_one
decreases-follow_of_one l = 3 * list_nodes (list_view l.list.now)

abbrev pub decreases-follow_copies : goal.decreases-follow_copies
decreases-follow_copies l = 3 * nodes (view l.inner.now) + 1

abbrev pub decreases-follow_again : goal.decreases-follow_again
decreases-follow_again l = 3 * nodes (view l.inner.now) + 1

abbrev pub invariant-follow_in_turn-loop-re : goal.invariant-follow_in_turn-loop-re
invariant-follow_in_turn-loop-re l = record {
  room : l.follows.room ≡ l.initial.follows.room;
  at : l.at ≡ length l.follows.flags;
  count : l.at + count_in (rest l.re-items l.re-index) ≡ l.base + count_in (trees_of (map view l.re-items));
  flags : InTurn (flag_at l.read.flags) l.re-items l.initial.follows.flags l.base l.begins l.re-index l.follows.flags
      l.at l.here;
}

abbrev pub invariant-follow_of_one-loop-re : goal.invariant-follow_of_one-loop-re
invariant-follow_of_one-loop-re l = record {
  room : l.follows.room ≡ l.initial.follows.room;
  at : l.at ≡ length l.follows.flags;
  count : l.at + count_in (rest l.re-items l.re-index) ≡ l.base + count_in (trees_of (map view l.re-items));
  flags : OfOne (flag_at l.read.flags) l.re-items l.initial.follows.flags l.base l.begins l.re-index l.follows.flags
      l.at;
}

abbrev pub invariant-follow_copies-loop-i : goal.invariant-follow_copies-loop-i
invariant-follow_copies-loop-i l = record {
  room : l.follows.room ≡ l.initial.follows.room;
  at : l.at ≡ length l.follows.flags;
  count : l.at + (l.count - l.i) * count_of (view l.inner) ≡ l.base + l.count * count_of (view l.inner);
  flags : Copies (flag_at l.read.flags) (view l.inner) l.initial.follows.flags l.count l.base l.begins
      (l.count - l.i) l.follows.flags l.at l.here;
}

abbrev pub invariant-follow_again-loop-i : goal.invariant-follow_again-loop-i
invariant-follow_again-loop-i l = record {
  room : l.follows.room ≡ l.initial.follows.room;
  at : l.at ≡ length l.follows.flags;
  count : l.at + (l.count - l.i) * count_of (view l.inner) ≡ l.base + l.count * count_of (view l.inner);
  flags : Again (flag_at l.read.flags) (view l.inner) l.initial.follows.flags l.count l.base l.begins
      (l.count - l.i) l.follows.flags l.at l.here;
}
