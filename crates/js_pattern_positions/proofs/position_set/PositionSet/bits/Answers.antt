use Rattle.std.proofs.Common.{◌+◌, ◌/◌, ◌∙◌, ap, arith}
use Rattle.std.proofs.lemmas.List.{get_or_read}
use Rattle.state_laws.specs.Flow.{flag_at}
use Rattle.js_pattern_positions.specs.Marks.{Marks}
use Rattle.js_pattern_positions.proofs.BitsLemmas.{bits-read, bits-past, cut-small}
use Rattle.js_pattern_positions.proofs.position_set.PositionSet.bits.Goals as goal

pub returns-then-index-len-clause-bits : goal.returns-then-index-len-clause-bits
returns-then-index-len-clause-bits c = λ i l.
    bits-past c.self.inside.words.items c.self.inside.len c.self.inside.top c.self.invariant.2 c.self.invariant.3
    c.args.from i (omega (arith, c.if-index-len.true, c.len.ensures))
    ∙ ap (λ (s : Marks). flag_at s.flags (c.args.from + i)) c.self.view_is

pub returns-clause-bits : goal.returns-clause-bits
returns-clause-bits c = λ i l.
    bits-read c.self.inside.words.items c.self.inside.len c.self.inside.top c.self.invariant.2 c.self.invariant.3
    c.args.from c.args.count i c.index.result.now c.requires l
    (get_or_read c.self.inside.words.items (c.args.from / 64) _ (omega (arith, c.if-index-len.false, c.len.ensures))
    c.index.ensures 0)
    ∙ ap (λ (s : Marks). flag_at s.flags (c.args.from + i)) c.self.view_is

pub returns-clause-small : goal.returns-clause-small
returns-clause-small c = cut-small _ c.args.count (omega (arith, c.requires))
