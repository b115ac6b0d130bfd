-- What is left goes on from the bounds so far.
use Rattle.std.proofs.Common.{◌≡◌, ◌≤◌, ◌^◌, drop, map, max, true}
use Rattle.frames.specs.ArrayFrame as A
use Rattle.finders.specs.Strings as S
use Rattle.js_algebra.specs.View.{signed_view, are_in_table}
use Rattle.js_bounds.proofs.bounds.Bounds.of_strings.Given as goal

abbrev pub invariant-loop-x : goal.invariant-loop-x
invariant-loop-x l =
    let T = l.core.positions in
    record {
      lower : max l.lower (S.lower T (map signed_view (drop l.x-index l.set))) ≡ S.lower T (map signed_view l.set);
      below : A.lesser l.below (S.below T (map signed_view (drop l.x-index l.set))) ≡ S.below T (map signed_view l.set);
      in_table : are_in_table T (map signed_view (drop l.x-index l.set)) ≡ true;
      few : l.lower ≤ 2 ^ 64;
    }
