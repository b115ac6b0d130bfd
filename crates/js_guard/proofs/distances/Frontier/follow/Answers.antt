-- One edge more is followed.
use Rattle.std.proofs.Common.{◌≡◌, ◌+◌, ◌<◌, length, get_or, Some, inl, inr, ap, ◌∙◌, sym, subst, true, arith}
use Rattle.std.proofs.lemmas.List.{get_or_read}
use Rattle.std.proofs.lemmas.Bool.{cases_lt}
use Rattle.schemas.specs.Guarded.{targets, is_among}
use Rattle.schema_laws.proofs.Ways.{is_among-at, place_among}
use Rattle.js_guard.specs.Distances.{get_distance, item, ReachesAt}
use Rattle.js_guard.proofs.Reaching.{no_item, steps, follow-all}
use Rattle.js_guard.proofs.Reached.{entry-inside}
use Rattle.js_guard.proofs.Stepping.{target-inside}
use Rattle.js_guard.proofs.distances.Frontier.follow.Goals as goal

pub row-target-items-requires : goal.row-target-items-requires
row-target-items-requires c =
    let s = c.args.self.now in
    let search = c.requires.search in
    let read = get_or_read s.queue.items c.args.at c.index-reached.result.now c.requires.at c.index-reached.ensures
    no_item in
    let inside = entry-inside c.args.edges.now s.distances.items s.queue.items c.args.at search c.args.at
    c.requires.at in
    subst (λ q. q.entry < length c.args.edges.now) (sym read) inside

pub reach-requires : goal.reach-requires
reach-requires c =
    let g = c.args.edges.now in
    let row = c.row-target-items.ensures in
    let i = c.loop-target.target-index in
    let x = c.index-reached.result.now.entry in
    let edge : i < length (targets g x) = omega (arith, ap length row) in
    let inside = target-inside g x i c.requires.closed edge in
    let known = c.loop-target.invariant.search.known in
    omega (arith, ap (λ r. get_or r i 0) row)

pub loop-target-preserved : goal.loop-target-preserved
loop-target-preserved c =
    let g = c.args.edges.now in
    let now = c.loop-target.self in
    let kept = c.loop-target.invariant in
    let reached = c.index-reached.result.now in
    let i = c.loop-target.target-index in
    let items = c.row-target-items.result.now in
    let row = c.row-target-items.ensures in
    let y = get_or items i 0 in
    let x = reached.entry in
    let edge : i < length (targets g x) = omega (arith, ap length row) in
    let same : y ≡ get_or (targets g x) i 0 = ap (λ r. get_or r i 0) row in
    let inside : y < length g = omega (arith, target-inside g x i c.requires.closed edge) in
    let among : is_among y (targets g (item now.queue.items c.args.at).entry) ≡ true =
    subst (λ q. is_among y (targets g q.entry) ≡ true) (sym kept.here)
    (subst (λ z. is_among z (targets g x) ≡ true) (sym same) (is_among-at (targets g x) i edge)) in
    let taken = subst (λ q. ReachesAt (get_distance now.distances.items y) now c.reach.new.self y (q.distance + 1))
    (sym kept.here) c.in_ok-reach.ensures in
    let on = steps g now c.reach.new.self c.args.at y kept.search kept.at inside among taken in
    let first = kept.search.begun in
    let (e, has, low) = on.has in
    record {
      search = on.search;
      at = (let longer = on.longer in let at = kept.at in omega arith);
      here = on.kept c.args.at kept.at ∙ kept.here;
      first = on.kept 0 first ∙ kept.first;
      so_far = λ k l.
          elim (cases_lt k i) [
            | inl before ↦
                let (d, old, near) = kept.so_far k before in
                (d, on.keeps (get_or items k 0) d old, near)
            | inr after ↦
                let here : k ≡ i = omega arith in (
                  e,
                  subst (λ j. get_distance c.reach.new.self.distances.items (get_or items j 0) ≡ Some e) (sym here) has,
                  omega (arith, low, ap (λ q. q.distance) kept.here),
                )
          ];
    }

pub returns-clause-search : goal.returns-clause-search
returns-clause-search c =
    let g = c.args.edges.now in
    let now = c.loop-target.self in
    let kept = c.loop-target.invariant in
    let reached = c.index-reached.result.now in
    let row = c.row-target-items.ensures in
    follow-all g now.distances.items now.queue.items c.args.at kept.at kept.search
    (λ y h.
    (let found = place_among y (targets g reached.entry)
    (subst (λ q. is_among y (targets g q.entry) ≡ true) kept.here h) in
    let l = found.1 in
    let (d, has, low) = kept.so_far found.0 (omega (arith, ap length row)) in
    let same = ap (λ r. get_or r found.0 0) row ∙ found.2 in (
      d,
      subst (λ z. get_distance now.distances.items z ≡ Some d) same has,
      omega (arith, low, ap (λ q. q.distance) kept.here),
    )))
