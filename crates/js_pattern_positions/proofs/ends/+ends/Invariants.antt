use Rattle.std.proofs.Common.{◌≡◌, ◌+◌, ◌-◌, ◌*◌, ◌||◌, map}
use Rattle.patterns.specs.Tree.{trees_of, repeated}
use Rattle.word_states.specs.Position.{count_of, count_in}
use Rattle.state_laws.specs.Flow.{flag_at, ends_here, ends_here_in_turn, ends_here_of_one}
use Rattle.js_pattern.specs.View.{view, list_view}
use Rattle.js_pattern_positions.specs.Walk.{nodes, list_nodes, ends_after}
use Rattle.js_pattern_positions.proofs.Items.{rest}
use Rattle.js_pattern_positions.proofs.ends.+ends.Given as goal

abbrev pub decreases-ends_here : goal.decreases-ends_here
decreases-ends_here l = 3 * nodes (view l.re.now)

abbrev pub decreases-ends_item : goal.decreases-ends_item
decreases-ends_item l = 3 * nodes (view l.re.now) + 1

abbrev pub decreases-ends_in_turn : goal.decreases-ends_in_turn
decreases-ends_in_turn l = 3 * list_nodes (list_view l.list.now)

abbrev pub decreases-ends_of_one : goal.decreases-ends_of_one
decreases-ends_of_one l = 3 * list_nodes (list_view l.list.now)

abbrev pub decreases-ends_repeated : goal.decreases-ends_repeated
decreases-ends_repeated l = 3 * nodes (view l.inner.now) + 2

abbrev pub invariant-ends_in_turn-loop-re : goal.invariant-ends_in_turn-loop-re
invariant-ends_in_turn-loop-re l = record {
  count : l.at + count_in (rest l.re-items l.re-index) ≡ l.base + count_in (trees_of (map view l.re-items));
  ends : ends_here_in_turn (rest l.re-items l.re-index) l.edges.first l.edges.last (flag_at l.read.flags) l.at l.here
      ≡ ends_here_in_turn (trees_of (map view l.re-items)) l.edges.first l.edges.last (flag_at l.read.flags) l.base
      l.begins;
}

abbrev pub invariant-ends_of_one-loop-re : goal.invariant-ends_of_one-loop-re
invariant-ends_of_one-loop-re l = record {
  count : l.at + count_in (rest l.re-items l.re-index) ≡ l.base + count_in (trees_of (map view l.re-items));
  ends : (l.ends
      || ends_here_of_one (rest l.re-items l.re-index) l.edges.first l.edges.last (flag_at l.read.flags) l.at l.begins)
      ≡ ends_here_of_one (trees_of (map view l.re-items)) l.edges.first l.edges.last (flag_at l.read.flags) l.base
      l.begins;
}

abbrev pub invariant-ends_repeated-loop-i : goal.invariant-ends_repeated-loop-i
invariant-ends_repeated-loop-i l = record {
  count : l.at + (l.count - l.i) * count_of (view l.inner) ≡ l.base + l.count * count_of (view l.inner);
  first : l.at ≡ l.base → l.here ≡ l.begins;
  ends : ends_after (λ at some. ends_here (view l.inner) l.edges.first l.edges.last (flag_at l.read.flags) at some)
      (count_of (view l.inner)) l.times.low (l.count - l.i) l.i l.at l.here l.ends
      ≡ ends_here (repeated (view l.inner) l.times.low l.times.high) l.edges.first l.edges.last (flag_at l.read.flags)
      l.base l.begins;
}
