-- Those that are left decide.
use Rattle.std.proofs.Common.{◌≡◌, map, drop}
use Rattle.goals.specs.Signed.{has, opposite}
use Rattle.goals.specs.Tree.{first}
use Rattle.js_algebra.specs.View.{signed_view}
use Rattle.js_tableau.proofs.set_step.first_clash.Given as goal

abbrev pub invariant-loop-x : goal.invariant-loop-x
invariant-loop-x l =
    first (λ x. has (opposite x) (map signed_view l.set.items.now)) (map signed_view (drop l.x-index l.set.items.now))
    ≡ first (λ x. has (opposite x) (map signed_view l.set.items.now)) (map signed_view l.set.items.now)
