use Rattle.std.proofs.Common.{◌*◌, length, ap, arith}
use Rattle.js_pattern_positions.specs.Marks.{Marks}
use Rattle.js_pattern_positions.proofs.BitsLemmas.{no_bits-quiet, length-flags_of}
use Rattle.js_pattern_positions.proofs.position_set.PositionSet.count_words.Goals as goal

pub returns-clause-quiet : goal.returns-clause-quiet
returns-clause-quiet c =
    rw (← c.self.view_is)
    (no_bits-quiet c.self.inside.words.items c.self.inside.len c.self.inside.top (64 * c.div_ceil.result)
    (omega (arith, c.div_ceil.ensures)) c.self.invariant.3)

pub returns-clause-within : goal.returns-clause-within
returns-clause-within c =
    omega (
      arith,
      c.div_ceil.ensures,
      c.self.invariant.2,
      length-flags_of c.self.inside.words.items c.self.inside.len,
      ap (λ (s : Marks). length s.flags) c.self.view_is,
    )
