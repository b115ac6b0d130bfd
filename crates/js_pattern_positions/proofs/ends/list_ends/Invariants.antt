use Rattle.std.proofs.Common.{◌≡◌, ◌+◌, true, map}
use Rattle.patterns.specs.Tree.{trees_of}
use Rattle.word_states.specs.Position.{count_in}
use Rattle.state_laws.specs.Flow.{flag_at, ends_here_in_turn}
use Rattle.js_pattern.specs.View.{view}
use Rattle.js_pattern_positions.proofs.Items.{rest}
use Rattle.js_pattern_positions.proofs.ends.list_ends.Given as goal

abbrev pub invariant-loop-re : goal.invariant-loop-re
invariant-loop-re l = record {
  count : l.at + count_in (rest l.re-items l.re-index) ≡ count_in (trees_of (map view l.re-items));
  ends : ends_here_in_turn (rest l.re-items l.re-index) l.edges.first l.edges.last (flag_at l.read.flags) l.at l.here
      ≡ ends_here_in_turn (trees_of (map view l.re-items)) l.edges.first l.edges.last (flag_at l.read.flags) 0 true;
}
