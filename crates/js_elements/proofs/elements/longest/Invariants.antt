-- What is left goes on from the longest so far.
use Rattle.std.proofs.Common.{◌≡◌, drop, map, max, true}
use Rattle.frames.specs.ArrayFrame as A
use Rattle.js_algebra.specs.View.{signed_view, are_in_table}
use Rattle.js_elements.proofs.elements.longest.Given as goal

abbrev pub invariant-loop-x : goal.invariant-loop-x
invariant-loop-x l =
    let T = l.core.positions in
    record {
      longest : max l.longest (A.longest T (map signed_view (drop l.x-index l.set)))
          ≡ A.longest T (map signed_view l.set);
      in_table : are_in_table T (map signed_view (drop l.x-index l.set)) ≡ true;
    }
