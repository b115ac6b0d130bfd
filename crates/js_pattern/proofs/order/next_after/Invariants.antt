use Rattle.std.proofs.Common.{drop}
use Rattle.js_pattern.proofs.Spans.{AreLeft}
use Rattle.js_pattern.proofs.order.next_after.Given as goal

-- every member that comes after `c` lies in a span from here on
abbrev pub invariant-loop-span : goal.invariant-loop-span
invariant-loop-span l = AreLeft l.ranges l.c (drop l.span-index l.span-items)
