use Rattle.std.proofs.Common.{◌≡◌, ℕ, ◌+◌, ◌-◌, ◌*◌, ◌++◌, true, min, List, map, drop, length}
use Rattle.patterns.specs.Match.{Matches, MatchesInTurn, MatchesOne, Repeats}
use Rattle.patterns.specs.Tree.{trees_of}
use Rattle.js_pattern.specs.View.{view, list_view}
use Rattle.js_match.specs.Places.{Leads, are_within, nodes, list_nodes, unmarked}
use Rattle.js_match.proofs.Rounds.{IsRound}
use Rattle.js_match.proofs.walk.+walk.Given as goal

abbrev pub decreases-walk : goal.decreases-walk
decreases-walk l = 3 * nodes (view l.re.now)

abbrev pub decreases-walk_in_turn : goal.decreases-walk_in_turn
decreases-walk_in_turn l = 3 * list_nodes (list_view l.list.now)

abbrev pub decreases-walk_either : goal.decreases-walk_either
decreases-walk_either l = 3 * list_nodes (list_view l.list.now)

abbrev pub decreases-walk_times : goal.decreases-walk_times
decreases-walk_times l = 3 * nodes (view l.re.now) + 1

abbrev pub decreases-walk_more : goal.decreases-walk_more
decreases-walk_more l = 3 * nodes (view l.re.now) + 1

abbrev pub invariant-walk_in_turn-loop-re : goal.invariant-walk_in_turn-loop-re
invariant-walk_in_turn-loop-re l = record {
  within : are_within (length l.word) l.places.items ≡ true;
  rest : (ends : List ℕ)
      → Leads (MatchesInTurn (trees_of (map view (drop l.re-index l.re-items))) l.word) l.places.items ends
      → Leads (MatchesInTurn (trees_of (map view l.re-items)) l.word) l.starts ends;
}

abbrev pub invariant-walk_either-loop-re : goal.invariant-walk_either-loop-re
invariant-walk_either-loop-re l = record {
  within : are_within (length l.word) l.found.items ≡ true;
  rest : (ends : List ℕ)
      → Leads (MatchesOne (trees_of (map view (drop l.re-index l.re-items))) l.word) l.starts ends
      → Leads (MatchesOne (trees_of (map view l.re-items)) l.word) l.starts (l.found.items ++ ends);
}

abbrev pub invariant-walk_times-loop-round : goal.invariant-walk_times-loop-round
invariant-walk_times-loop-round l = record {
  within : are_within (length l.word) l.places.items ≡ true;
  rest : (ends : List ℕ)
      → Leads (Repeats (Matches (view l.re) l.word) (l.times - l.round)) l.places.items ends
      → Leads (Repeats (Matches (view l.re) l.word) l.times) l.starts ends;
}

abbrev pub invariant-walk_more-loop-left : goal.invariant-walk_more-loop-left
invariant-walk_more-loop-left l = record {
  size : length l.marks.items ≡ length l.word + 1;
  within : are_within (length l.word) l.fresh.items ≡ true;
  round : IsRound (Matches (view l.re) l.word) l.fn.most l.starts l.left l.marks.items l.fresh.items;
}

abbrev pub decreases-walk_more-loop-left : goal.decreases-walk_more-loop-left
decreases-walk_more-loop-left l = unmarked l.marks.items + min 1 (length l.fresh.items)

abbrev pub decreases-walk_repeat : goal.decreases-walk_repeat
decreases-walk_repeat l = 3 * nodes (view l.re.now) + 2
