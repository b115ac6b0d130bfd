-- The leaves so far.
use Rattle.std.proofs.Common.{◌≡◌, filter, take}
use Rattle.positions.specs.Position.{position_at}
use Rattle.name_laws.specs.Plans.{is_leaf}
use Rattle.js_algebra.specs.View.{places}
use Rattle.js_tableau.proofs.name_plan.leaves_of.Given as goal

abbrev pub invariant-loop-q : goal.invariant-loop-q
invariant-loop-q l =
    places l.leaves.items ≡ filter (λ q. is_leaf (position_at l.core.positions q)) (take l.q-index l.found)
