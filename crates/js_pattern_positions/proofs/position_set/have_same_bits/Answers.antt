use Rattle.std.proofs.Common.{ap, arith, eq-eqb, eqb-true}
use Rattle.std.specs.Int.{bit_at}
use Rattle.std.proofs.lemmas.Nat.Bits.{same_from_bits_below}
use Rattle.js_pattern_positions.proofs.position_set.have_same_bits.Goals as goal

pub returns : goal.returns
returns c = (
  (λ e i l. ap (λ w. bit_at w i) (eqb-true c.args.ours c.args.theirs e)),
  (λ h. eq-eqb c.args.ours c.args.theirs
      (same_from_bits_below 64 c.args.ours c.args.theirs (omega arith) (omega arith) h)),
)
