use Rattle.std.specs.BinaryHeap.{heap_items, heap_len}
use Rattle.js_valid.proofs.PendingLaws.{Left}
use Rattle.js_valid.proofs.pending.Pending.pop.Given as goal

abbrev pub invariant-loop-self : goal.invariant-loop-self
invariant-loop-self l = Left l.fn.self l.place (heap_items l.self-inside.places)

abbrev pub decreases-loop-self : goal.decreases-loop-self
decreases-loop-self l = heap_len l.self-inside.places
