-- The goal's counts are written.
use Rattle.std.proofs.Common.{◌<◌, [], length, slice_get, get_or, ap, arith}
use Rattle.js_waiting.specs.Counts.{change, count_in}
use Rattle.js_waiting.proofs.Changes.{written, or_low}
use Rattle.js_waiting.proofs.Counting.{waits_some, wakes_at}
use Rattle.js_waiting.proofs.waiting.Waiting.lower.Goals as goal

pub returns-clause-counted : goal.returns-clause-counted
returns-clause-counted g c =
    let xs = c.self.inside.goals.items in
    let now = c.args.self.now in
    let n = c.args.goal in
    let a = c.args.alternative in
    let l = or_low now n a (waits_some (slice_get (get_or now n []) a) c.args.place c.requires) in
    let m : n < length xs = omega (arith, l, ap length c.self.view_is) in
    written xs now (change (count_in c.args.place) a) n c.index_mut.result.now c.count.new.self c.self.view_is m
    c.index_mut.ensures.value c.count.ensures.counted

pub returns-clause-wakes : goal.returns-clause-wakes
returns-clause-wakes g c =
    let xs = c.self.inside.goals.items in
    let now = c.args.self.now in
    let n = c.args.goal in
    let a = c.args.alternative in
    let l = or_low now n a (waits_some (slice_get (get_or now n []) a) c.args.place c.requires) in
    let m : n < length xs = omega (arith, l, ap length c.self.view_is) in
    wakes_at c.count.result xs now n a c.index_mut.result.now c.count.new.self c.self.view_is m
    c.index_mut.ensures.value c.count.ensures.wakes
