-- Those that are left decide.
use Rattle.std.proofs.Common.{◌≡◌, map, drop, true}
use Rattle.goals.specs.Choices.{is_wrong}
use Rattle.goals.specs.Tree.{first}
use Rattle.js_algebra.specs.View.{signed_view, kind_view, are_in_table}
use Rattle.js_tableau.proofs.set_step.first_wrong.Given as goal

abbrev pub invariant-loop-x : goal.invariant-loop-x
invariant-loop-x l =
    (first (is_wrong l.core.positions (kind_view l.kind)) (map signed_view (drop l.x-index l.set))
    ≡ first (is_wrong l.core.positions (kind_view l.kind)) (map signed_view l.set))
    × (are_in_table l.core.positions (map signed_view (drop l.x-index l.set)) ≡ true)
