use Rattle.std.proofs.Common.{◌≡◌, ◌<◌, ◌*◌, true, ℕ}
use Rattle.state_laws.specs.Flow.{flag_at}
use Rattle.js_pattern_positions.proofs.position_set.PositionSet.is_within.Given as goal

abbrev pub invariant-loop-index : goal.invariant-loop-index
invariant-loop-index l =
    (p : ℕ) → p < 64 * l.index → flag_at l.self.flags p ≡ true → flag_at l.other.flags p ≡ true
