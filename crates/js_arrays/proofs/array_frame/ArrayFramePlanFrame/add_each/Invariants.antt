-- The literals that are left.
use Rattle.std.proofs.Common.{◌≡◌, ◌++◌, drop, map, flat_map, true}
use Rattle.js_algebra.specs.View.{signed_view, are_in_table}
use Rattle.js_elements.specs.Elements.{asked_at}
use Rattle.js_arrays.proofs.array_frame.ArrayFramePlanFrame.add_each.Given as goal

abbrev pub invariant-loop-x : goal.invariant-loop-x
invariant-loop-x l =
    let T = l.self.core.now.positions in
    record {
      list : map signed_view l.list.items
          ++ flat_map (asked_at T l.index) (map signed_view (drop l.x-index l.x-items))
          ≡ map signed_view l.fn.list.items ++ flat_map (asked_at T l.index) (map signed_view l.self.set.now);
      in_table : are_in_table T (map signed_view l.fn.list.items) ≡ true
          → are_in_table T (map signed_view l.list.items) ≡ true;
      left : are_in_table T (map signed_view (drop l.x-index l.x-items)) ≡ true;
    }
