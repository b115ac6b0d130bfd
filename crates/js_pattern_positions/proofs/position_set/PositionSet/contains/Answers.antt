use Rattle.std.proofs.Common.{◌∙◌, ap, sym, arith}
use Rattle.std.proofs.lemmas.Bool.{le-ltb}
use Rattle.state_laws.specs.Flow.{flag_at}
use Rattle.js_pattern_positions.specs.Marks.{Marks}
use Rattle.js_pattern_positions.proofs.FlagsLemmas.{flag_at-beyond}
use Rattle.js_pattern_positions.proofs.BitsLemmas.{bit_read, length-flags_of}
use Rattle.js_pattern_positions.proofs.position_set.PositionSet.contains.Goals as goal

pub returns-then-position-self : goal.returns-then-position-self
returns-then-position-self c =
    bit_read c.self.inside.words.items c.self.inside.len c.args.position c.index.result.now
    c.if-position-self.true c.self.invariant.0 c.index.ensures
    ∙ ap (λ (s : Marks). flag_at s.flags c.args.position) c.self.view_is

pub returns-else-position-self : goal.returns-else-position-self
returns-else-position-self c =
    le-ltb c.args.position c.self.inside.len c.if-position-self.false
    ∙ sym (flag_at-beyond _ c.args.position
    (omega (arith, length-flags_of c.self.inside.words.items c.self.inside.len, c.if-position-self.false)))
    ∙ ap (λ (s : Marks). flag_at s.flags c.args.position) c.self.view_is
