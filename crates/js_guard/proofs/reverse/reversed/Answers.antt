-- The sources of one entry more.
use Rattle.std.proofs.Common.{sym, subst, arith}
use Rattle.js_guard.specs.Linked.{pairs, IsLinked, HasSources}
use Rattle.js_guard.proofs.Linking.{sources-more, sources-all}
use Rattle.js_guard.proofs.reverse.reversed.Goals as goal

pub loop-target-preserved : goal.loop-target-preserved
loop-target-preserved c =
    let g = c.args.edges.now in
    let linked = c.in_ok-linked.linked in
    let heads = c.in_ok-linked.ensures.heads in
    let all = subst (λ n. IsLinked (pairs 0 g) n linked.last.items linked.edges.items) (sym heads)
    c.in_ok-linked.ensures in
    let read = c.in_ok-read_sources.ensures (pairs 0 g) all in
    sources-more g c.loop-target.back c.push_row.new.self c.loop-target.target c.deref.result.now
    c.loop-target.invariant
    c.in_ok-push_row.ensures
    (subst (HasSources (pairs 0 g) c.loop-target.target 0) (sym c.deref.ensures.value) read)

pub returns : goal.returns
returns c =
    sources-all c.args.edges.now c.loop-target.back c.loop-target.target c.requires.closed (omega arith)
    c.loop-target.invariant
