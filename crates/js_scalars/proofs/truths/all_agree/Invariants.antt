-- What is left decides.
use Rattle.std.proofs.Common.{◌≡◌, map, drop, true}
use Rattle.documents.specs.Tests.{every}
use Rattle.expansions.specs.Leaves.{agrees}
use Rattle.js_algebra.specs.View.{signed_view, are_in_table}
use Rattle.js_scalars.proofs.truths.all_agree.Given as goal

abbrev pub invariant-loop-x : goal.invariant-loop-x
invariant-loop-x l = record {
  agree :
      every (agrees l.core.positions l.truth) (map signed_view (drop l.x-index l.set))
      ≡ every (agrees l.core.positions l.truth) (map signed_view l.set);
  in_table : are_in_table l.core.positions (map signed_view (drop l.x-index l.set)) ≡ true;
}
