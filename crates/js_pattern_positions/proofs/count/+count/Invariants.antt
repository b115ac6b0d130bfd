use Rattle.std.proofs.Common.{◌≡◌, ◌+◌, ◌≤◌, min, map}
use Rattle.patterns.specs.Tree.{trees_of}
use Rattle.word_states.specs.Position.{count_in}
use Rattle.js_pattern.specs.View.{view}
use Rattle.js_pattern_positions.proofs.Items.{rest}
use Rattle.js_pattern_positions.proofs.count.+count.Given as goal

abbrev pub invariant-count_list-loop-re : goal.invariant-count_list-loop-re
invariant-count_list-loop-re l = record {
  within : l.count ≤ 16385;
  count : min (l.count + count_in (rest l.re-items l.re-index)) 16385
      ≡ min (count_in (trees_of (map view l.re-items))) 16385;
}
