-- The end of `x` is that of each position on the way to it.
use Rattle.std.proofs.Common.{◌≡◌, map, ◌∙◌, arith}
use Rattle.std.proofs.lemmas.List.{length-map}
use Rattle.goals.specs.Goal.{follow}
use Rattle.js_algebra.specs.View.{node_view, signed_view}
use Rattle.js_algebra.proofs.Ended.{inside, follow-next, next-inside, left-first, left-next}
use Rattle.js_algebra.proofs.ends.leave.Goals as goal

pub loop-init : goal.loop-init
loop-init c = record {
  same = c.requires.end;
  in_table = c.requires.in_table;
  left =
      left-first (map node_view c.args.nodes.now) (map signed_view c.args.ends.now) (map signed_view c.set_end.new.ends)
      c.args.x.plus c.args.x.pos.0 (signed_view c.args.end) c.requires.known c.requires.in_table c.requires.end
      c.set_end.ensures;
}

pub known_end-requires : goal.known_end-requires
known_end-requires c =
    let next = next-inside (map node_view c.args.nodes.now) c.requires.ended (signed_view c.loop.at)
    (signed_view c.in-Some.next) c.loop.invariant.in_table c.in-Some.ensures in
    omega (
      arith,
      inside (map node_view c.args.nodes.now) c.in-Some.next.plus c.in-Some.next.pos.0 next,
      c.loop.invariant.left.known.count,
      length-map c.loop.ends signed_view,
    )

pub set_end-requires-in-loop : goal.set_end-requires-in-loop
set_end-requires-in-loop c =
    let next = next-inside (map node_view c.args.nodes.now) c.requires.ended (signed_view c.loop.at)
    (signed_view c.in-Some.next) c.loop.invariant.in_table c.in-Some.ensures in
    omega (
      arith,
      inside (map node_view c.args.nodes.now) c.in-Some.next.plus c.in-Some.next.pos.0 next,
      c.loop.invariant.left.known.count,
      length-map c.loop.ends signed_view,
    )

pub loop-preserved : goal.loop-preserved
loop-preserved c =
    let same : signed_view c.args.end ≡ follow (map node_view c.args.nodes.now) (signed_view c.in-Some.next) =
    c.loop.invariant.same ∙ follow-next (map node_view c.args.nodes.now) c.requires.ended (signed_view c.loop.at)
    (signed_view c.in-Some.next) c.in-Some.ensures in
    record {
      same = same;
      in_table =
          next-inside (map node_view c.args.nodes.now) c.requires.ended (signed_view c.loop.at)
          (signed_view c.in-Some.next) c.loop.invariant.in_table c.in-Some.ensures;
      left =
          left-next (map node_view c.args.nodes.now) c.args.x.pos.0 (map signed_view c.args.ends.now)
          (map signed_view c.loop.ends) (map signed_view c.set_end-in-loop.new.ends) c.in-Some.next.plus
          c.in-Some.next.pos.0 (signed_view c.args.end) c.loop.invariant.left
          (inside (map node_view c.args.nodes.now) c.args.x.plus c.args.x.pos.0 c.requires.in_table) same
          c.set_end-in-loop.ensures;
    }
