use Rattle.std.proofs.Common.{◌∙◌, ap}
use Rattle.patterns.specs.CharSet.{has, count_below}
use Rattle.pattern_laws.specs.Laws.{width_of}
use Rattle.pattern_laws.proofs.Counts.{width_of-count}
use Rattle.js_pattern.proofs.SetOps.{are_up-ranges, width_of-small}
use Rattle.js_pattern.proofs.char_set.CharSet.width.Goals as goal

pub width-requires-clause-ends : goal.width-requires-clause-ends
width-requires-clause-ends c =
    rw c.deref.ensures.value (are_up-ranges c.self.inside.ranges.items c.self.invariant)

pub width-requires-clause-small : goal.width-requires-clause-small
width-requires-clause-small c =
    rw c.deref.ensures.value (width_of-small c.self.inside.ranges.items c.self.invariant)

pub returns : goal.returns
returns c =
    c.width.ensures ∙ ap width_of c.deref.ensures.value
    ∙ width_of-count c.self.inside.ranges.items c.self.invariant
    ∙ ap (λ s. count_below (has s) 0x110000) c.self.view_is
