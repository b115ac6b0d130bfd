-- One step along a reference uses one of the steps that are left.
use Rattle.std.proofs.Common.{◌-◌, map, length, arith, ap, sym, ◌∙◌, refl}
use Rattle.std.proofs.lemmas.List.{length-map}
use Rattle.goals.specs.Goal.{follow, follow_within}
use Rattle.js_algebra.specs.View.{node_view, signed_view}
use Rattle.js_algebra.proofs.Ended.{follow-next, next-inside, within-next, known-end, inside}
use Rattle.js_algebra.proofs.ends.end_of.Goals as goal

pub loop-init : goal.loop-init
unfolding follow
loop-init c = record {
  within = ap (λ n. follow_within (map node_view c.args.nodes.now) n (signed_view c.args.x))
      (omega (arith, length-map c.args.nodes.now node_view));
  same = refl;
  in_table = c.requires.in_table;
  count = sym (length-map c.args.nodes.now node_view);
}

pub loop-preserved : goal.loop-preserved
loop-preserved c = record {
  within =
      sym (within-next (map node_view c.args.nodes.now) (length c.args.nodes.now - c.loop.counter) _
      (signed_view c.loop.at) (signed_view c.in-Some-reference.next) (omega arith) c.in-Some-reference.ensures) ∙ c.loop.invariant.within;
  same =
      sym (follow-next (map node_view c.args.nodes.now) c.requires.ended (signed_view c.loop.at)
      (signed_view c.in-Some-reference.next) c.in-Some-reference.ensures) ∙ c.loop.invariant.same;
  in_table =
      next-inside (map node_view c.args.nodes.now) c.requires.ended (signed_view c.loop.at)
      (signed_view c.in-Some-reference.next) c.loop.invariant.in_table c.in-Some-reference.ensures;
  count = c.loop.invariant.count;
}

pub returns-in-Some : goal.returns-in-Some
returns-in-Some c =
    known-end (map node_view c.args.nodes.now) (map signed_view c.args.ends.now) c.requires.known c.loop.at.pos.0
    c.loop.at.plus (signed_view c.in-Some.end)
    (inside (map node_view c.args.nodes.now) c.loop.at.plus c.loop.at.pos.0 c.loop.invariant.in_table)
    c.in-Some.ensures ∙ c.loop.invariant.same
