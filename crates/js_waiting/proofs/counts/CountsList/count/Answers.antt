-- The alternative is written.
use Rattle.std.proofs.Common.{◌<◌, length, slice_get, ap, arith}
use Rattle.js_waiting.specs.Counts.{count_in}
use Rattle.js_waiting.proofs.Changes.{written, some_low}
use Rattle.js_waiting.proofs.Counting.{waits_some, wakes_set}
use Rattle.js_waiting.proofs.counts.CountsList.count.Goals as goal

pub returns-clause-counted : goal.returns-clause-counted
returns-clause-counted c =
    let xs = c.self.inside.items.items in
    let now = c.args.self.now in
    let n = c.args.alternative in
    let l = some_low now n (waits_some (slice_get now n) c.args.place c.requires) in
    let m : n < length xs = omega (arith, l, ap length c.self.view_is) in
    written xs now (count_in c.args.place) n c.index_mut.result.now c.count.new.self c.self.view_is m
    c.index_mut.ensures.value c.count.ensures.counted

pub returns-clause-wakes : goal.returns-clause-wakes
returns-clause-wakes c =
    let xs = c.self.inside.items.items in
    let now = c.args.self.now in
    let n = c.args.alternative in
    let l = some_low now n (waits_some (slice_get now n) c.args.place c.requires) in
    let m : n < length xs = omega (arith, l, ap length c.self.view_is) in
    wakes_set c.count.result xs now n c.index_mut.result.now c.count.new.self c.self.view_is m
    c.index_mut.ensures.value c.count.ensures.wakes
