use Rattle.std.specs.BinaryHeap.{heap_items}
use Rattle.js_valid.proofs.PendingLaws.{first-at, top-none, top-some}
use Rattle.js_valid.proofs.pending.is_top.Goals as goal

pub returns-in-None : goal.returns-in-None
returns-in-None c =
    top-none c.args.place c.args.places.now.data.len (heap_items c.args.places.now) c.peek.result
    c.args.places.now.data.ok.0 c.in-None.is c.peek.ensures.variant

pub returns-in-Some : goal.returns-in-Some
returns-in-Some c =
    top-some c.args.place c.in-Some.top.now (heap_items c.args.places.now) c.requires.most
    (first-at c.args.places.now.data.len (heap_items c.args.places.now) c.peek.result c.in-Some.top c.in-Some.is
    c.args.places.now.data.ok.0 c.peek.ensures.variant c.in-Some.ensures.lookup)
    (c.in-Some.ensures.greatest c.requires.heap)
