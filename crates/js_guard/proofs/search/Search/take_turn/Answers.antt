-- The entry's edges are passed, and a new entry is entered or the entry is left.
use Rattle.std.proofs.Common.{◌<◌, ◌≤◌, length, get_or, ap, refl, arith}
use Rattle.std.proofs.lemmas.Result.{on_ok_weaker}
use Rattle.schemas.specs.Guarded.{targets}
use Rattle.js_guard.specs.declared.search.Search.{Search}
use Rattle.js_guard.specs.Searching.{at}
use Rattle.js_guard.proofs.Passing.{turn}
use Rattle.js_guard.proofs.Stepping.{target-inside, place-within, turn-inside, turn-row, turned, turned-work, turned-last}
use Rattle.js_guard.proofs.search.Search.take_turn.Goals as goal

pub row-row-requires : goal.row-row-requires
row-row-requires c =
    let t = c.pass_edges-next.new.self in
    turn-inside c.args.edges.now t c.args.self.now.path.items (turn c.args.turn.place c.pass_edges-next.result)
    c.pass_edges-next.ensures.search c.index.result.now c.index.ensures

pub enter-requires-clause-entry : goal.enter-requires-clause-entry
enter-requires-clause-entry c =
    let g = c.args.edges.now in
    let n = c.pass_edges-next.result in
    let row = c.row-row.ensures in
    let edge : n < length (targets g c.index.result.now) = omega (arith, ap length row) in
    let marked = c.pass_edges-next.ensures.search.marked in
    omega (arith, target-inside g c.index.result.now n c.requires.closed edge, ap (λ r. get_or r n 0) row)

pub leave-requires-clause-place : goal.leave-requires-clause-place
leave-requires-clause-place c =
    let t = c.pass_edges-next.new.self in
    place-within c.args.edges.now t c.args.self.now.path.items (turn c.args.turn.place c.pass_edges-next.result)
    c.pass_edges-next.ensures.search

pub returns-in_ok-push-clause-search : goal.returns-in_ok-push-clause-search
returns-in_ok-push-clause-search c =
    let g = c.args.edges.now in
    let t = c.pass_edges-next.new.self in
    let p = c.args.turn.place in
    let n = c.pass_edges-next.result in
    let e = c.pass_edges-next.ensures in
    let u : Search = record t { path = c.push.new.self } in
    let row = turn-row g t c.args.self.now.path.items (turn p n) e.search c.index.result.now c.row-row.result.now
    t.opened.items c.index.ensures c.row-row.ensures refl in
    let edge : n < length (targets g (at t.opened.items p)) = omega (arith, ap length row) in
    on_ok_weaker c.enter.result
    (λ h. (turned g c.args.self.now t u c.enter.new.self p n _ c.requires.closed e refl c.in_ok-push.ensures.items edge
    (ap (λ r. get_or r n 0) row) h).search)
    c.enter.ensures

pub returns-in_ok-push-clause-progress : goal.returns-in_ok-push-clause-progress
returns-in_ok-push-clause-progress c =
    let g = c.args.edges.now in
    let t = c.pass_edges-next.new.self in
    let p = c.args.turn.place in
    let n = c.pass_edges-next.result in
    let e = c.pass_edges-next.ensures in
    let u : Search = record t { path = c.push.new.self } in
    let row = turn-row g t c.args.self.now.path.items (turn p n) e.search c.index.result.now c.row-row.result.now
    t.opened.items c.index.ensures c.row-row.ensures refl in
    let edge : n < length (targets g (at t.opened.items p)) = omega (arith, ap length row) in
    on_ok_weaker c.enter.result
    (turned-work g c.args.self.now t u c.enter.new.self p n _ c.requires.closed e refl c.in_ok-push.ensures.items edge
    (ap (λ r. get_or r n 0) row))
    c.enter.ensures

pub returns-else-next-row-clause-search : goal.returns-else-next-row-clause-search
returns-else-next-row-clause-search c =
    let g = c.args.edges.now in
    let t = c.pass_edges-next.new.self in
    let p = c.args.turn.place in
    let n = c.pass_edges-next.result in
    let e = c.pass_edges-next.ensures in
    let row = turn-row g t c.args.self.now.path.items (turn p n) e.search c.index.result.now c.row-row.result.now
    t.opened.items c.index.ensures c.row-row.ensures refl in
    let over : length (targets g (at t.opened.items p)) ≤ n = omega (arith, ap length row) in
    (turned-last g c.args.self.now t c.leave.new.self p n e over c.leave.ensures).search

pub returns-else-next-row-clause-keeps : goal.returns-else-next-row-clause-keeps
returns-else-next-row-clause-keeps c =
    let g = c.args.edges.now in
    let t = c.pass_edges-next.new.self in
    let p = c.args.turn.place in
    let n = c.pass_edges-next.result in
    let e = c.pass_edges-next.ensures in
    let row = turn-row g t c.args.self.now.path.items (turn p n) e.search c.index.result.now c.row-row.result.now
    t.opened.items c.index.ensures c.row-row.ensures refl in
    let over : length (targets g (at t.opened.items p)) ≤ n = omega (arith, ap length row) in
    (turned-last g c.args.self.now t c.leave.new.self p n e over c.leave.ensures).keeps
