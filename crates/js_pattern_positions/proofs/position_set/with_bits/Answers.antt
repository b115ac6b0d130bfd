use Rattle.js_pattern_positions.proofs.BitsLemmas.{bit_at-added_below, bit_at-added_above}
use Rattle.js_pattern_positions.proofs.position_set.with_bits.Goals as goal

pub returns-clause-below : goal.returns-clause-below
returns-clause-below c = λ i l. bit_at-added_below c.args.word c.args.place c.args.bits c.requires.fits i l

pub returns-clause-above : goal.returns-clause-above
returns-clause-above c = λ i l within.
    bit_at-added_above c.args.word c.args.place c.args.bits c.requires.fits i l (c.requires.free i l within)
