use Rattle.std.proofs.Common.{leb-true}
use Rattle.js_pattern_positions.proofs.BitsLemmas.{no_bits-quiet}
use Rattle.js_pattern_positions.proofs.position_set.PositionSet.has_none_from.Goals as goal

pub returns : goal.returns
returns c = λ e.
    rw (← c.self.view_is)
    (no_bits-quiet c.self.inside.words.items c.self.inside.len c.self.inside.top c.args.position
    (leb-true c.self.inside.top c.args.position e) c.self.invariant.3)
