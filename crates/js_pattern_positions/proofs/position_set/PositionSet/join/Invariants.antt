use Rattle.std.proofs.Common.{◌≡◌}
use Rattle.js_pattern_positions.proofs.SetLemmas.{Joined}
use Rattle.js_pattern_positions.proofs.position_set.PositionSet.join.Given as goal

abbrev pub invariant-loop-index : goal.invariant-loop-index
invariant-loop-index l =
    Joined l.initial.self-inside.words.items l.self-inside.words.items l.other.flags l.index
    × (l.self-inside.len ≡ l.initial.self-inside.len) × (l.self-inside.top ≡ l.initial.self-inside.top)
