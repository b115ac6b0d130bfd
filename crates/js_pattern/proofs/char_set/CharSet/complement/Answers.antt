use Rattle.std.proofs.Common.{◌∙◌, ap, ◌&&◌, not, arith}
use Rattle.patterns.specs.CharSet.{has, is_scalar}
use Rattle.pattern_laws.proofs.Gaps.{are_ranges-complement_of, has-complement_of}
use Rattle.js_pattern.proofs.SetOps.{are_up-ranges, are_up-with_range}
use Rattle.js_pattern.proofs.char_set.CharSet.complement.Goals as goal

pub with_range-requires-clause-ends : goal.with_range-requires-clause-ends
with_range-requires-clause-ends c =
    rw c.deref.ensures.value (are_up-ranges c.self.inside.ranges.items c.self.invariant)

pub gaps-requires : goal.gaps-requires
gaps-requires c =
    rw (c.deref-2.ensures.value, c.in_ok-taken.ensures, c.deref.ensures.value)
    (are_up-with_range (0xd800, 0xdfff) c.self.inside.ranges.items (omega arith) (omega arith)
    (are_up-ranges c.self.inside.ranges.items c.self.invariant))

pub invariant_of-result : goal.invariant_of-result
invariant_of-result c =
    rw (c.in_ok-ranges.ensures, c.deref-2.ensures.value, c.in_ok-taken.ensures, c.deref.ensures.value)
    (are_ranges-complement_of c.self.inside.ranges.items c.self.invariant)

pub returns-clause-members : goal.returns-clause-members
returns-clause-members c = λ n.
    rw (c.in_ok-ranges.ensures, c.deref-2.ensures.value, c.in_ok-taken.ensures, c.deref.ensures.value)
    (has-complement_of c.self.inside.ranges.items c.self.invariant n
    ∙ ap (λ s. is_scalar n && not (has s n)) c.self.view_is)
