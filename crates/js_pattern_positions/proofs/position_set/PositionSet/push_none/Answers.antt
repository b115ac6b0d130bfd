use Rattle.std.proofs.Common.{◌∙◌, ◌++◌, length, replicate, false, ap, arith}
use Rattle.js_pattern_positions.specs.Marks.{Marks}
use Rattle.js_pattern_positions.proofs.BitsLemmas.{length-flags_of, flags_of-none_more}
use Rattle.js_pattern_positions.proofs.position_set.PositionSet.push_none.Goals as goal

pub invariant_of-self : goal.invariant_of-self
invariant_of-self c = (
  omega (
    arith,
    length-flags_of c.self.inside.words.items c.self.inside.len,
    ap (λ (s : Marks). length s.flags) c.self.view_is,
    ap Marks.room c.self.view_is,
    c.requires,
  ),
  c.self.invariant.1,
  omega (arith, c.self.invariant.2),
  c.self.invariant.3,
)

pub returns-clause-flags : goal.returns-clause-flags
returns-clause-flags c =
    flags_of-none_more c.self.inside.words.items c.args.count c.self.inside.len c.self.inside.top c.self.invariant.2
    c.self.invariant.3
    ∙ ap (λ (s : Marks). s.flags ++ replicate c.args.count false) c.self.view_is
