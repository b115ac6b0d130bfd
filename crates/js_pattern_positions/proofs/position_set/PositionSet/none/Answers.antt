use Rattle.js_pattern_positions.proofs.BitsLemmas.{flags_of-zeros}
use Rattle.std.proofs.Common.{◌≡◌, ◌+◌, ◌/◌, replicate, arith}
use Rattle.js_pattern_positions.proofs.position_set.PositionSet.none.Goals as goal

pub returns : goal.returns
returns c =
    let zeros : c.in_ok-vec.field-0.items ≡ replicate (c.args.count / 64 + 1) 0 =
    search (c.in_ok-vec.ensures.items_if_clones_equal) in
    rw zeros (flags_of-zeros (c.args.count / 64 + 1) c.args.count (omega arith))
