use Rattle.js_pattern.proofs.Joins.{are_up-every_range, every_range-permuted, are_ranges-joined, joined-set_of}
use Rattle.js_pattern.proofs.char_set.CharSet.from_ranges.Goals as goal

pub join-requires : goal.join-requires
join-requires c =
    let every =
    every_range-permuted c.args.ranges.items c.sort_unstable.new.self.items c.sort_unstable.ensures.permutation
    c.requires in
    rw c.deref.ensures.value (are_up-every_range c.sort_unstable.new.self.items every)

pub invariant_of-result : goal.invariant_of-result
invariant_of-result c =
    let every =
    every_range-permuted c.args.ranges.items c.sort_unstable.new.self.items c.sort_unstable.ensures.permutation
    c.requires in
    rw (c.in_ok-ranges.ensures, c.deref.ensures.value)
    (are_ranges-joined c.sort_unstable.new.self.items c.sort_unstable.ensures.sorted every)

pub returns : goal.returns
returns c =
    rw (c.in_ok-ranges.ensures, c.deref.ensures.value)
    (joined-set_of c.args.ranges.items c.sort_unstable.new.self.items c.sort_unstable.ensures.permutation
    c.sort_unstable.ensures.sorted c.requires)
