-- What is left goes after the demands so far.
use Rattle.std.proofs.Common.{◌≡◌, ◌++◌, drop, map, filter, true}
use Rattle.frames.specs.ArrayFrame as A
use Rattle.js_algebra.specs.View.{signed_view, are_in_table}
use Rattle.js_elements.proofs.elements.demands.Given as goal

abbrev pub invariant-loop-x : goal.invariant-loop-x
invariant-loop-x l =
    let T = l.core.positions in
    record {
      value : map signed_view l.demands.items ++ filter (A.is_demand T) (map signed_view (drop l.x-index l.set))
          ≡ filter (A.is_demand T) (map signed_view l.set);
      found : are_in_table T (map signed_view l.demands.items) ≡ true;
      in_table : are_in_table T (map signed_view (drop l.x-index l.set)) ≡ true;
    }
