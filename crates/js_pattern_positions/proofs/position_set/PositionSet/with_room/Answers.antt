use Rattle.js_pattern_positions.proofs.BitsLemmas.{flags_of-none}
use Rattle.js_pattern_positions.proofs.position_set.PositionSet.with_room.Goals as goal

pub returns-clause-flags : goal.returns-clause-flags
returns-clause-flags c = flags_of-none _
