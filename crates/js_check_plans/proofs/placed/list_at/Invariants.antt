-- The demands that are left.
use Rattle.std.proofs.Common.{◌≡◌, ◌++◌, drop, map, flat_map, true}
use Rattle.frames.specs.Frame.{list_at}
use Rattle.js_algebra.specs.View.{signed_view, are_in_table}
use Rattle.js_plans.specs.Serving.{place_view}
use Rattle.js_check_plans.proofs.placed.list_at.Given as goal

abbrev pub invariant-loop-demand : goal.invariant-loop-demand
invariant-loop-demand g l =
    let frame = g.F.CheckFrame.frame l.frame in
    let T = g.F.CheckFrame.table l.frame in
    record {
      list : map signed_view l.list.items
          ++ flat_map (frame.serving (place_view l.place)) (map signed_view (drop l.demand-index l.served))
          ≡ list_at frame (place_view l.place) (map signed_view l.served);
      in_table : are_in_table T (map signed_view l.list.items) ≡ true;
      left : are_in_table T (map signed_view (drop l.demand-index l.served)) ≡ true;
    }
