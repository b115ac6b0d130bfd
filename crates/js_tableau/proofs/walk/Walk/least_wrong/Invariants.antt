-- What was found, and the members that are left.
use Rattle.std.proofs.Common.{◌≡◌, drop, None, option_map}
use Rattle.goals.specs.Choices.{is_wrong}
use Rattle.js_algebra.specs.View.{signed_view, kind_view}
use Rattle.js_tableau.specs.Least.{least_from}
use Rattle.js_tableau.proofs.walk.Walk.least_wrong.Given as goal

abbrev pub invariant-loop-i : goal.invariant-loop-i
invariant-loop-i l =
    least_from (is_wrong l.core.positions (kind_view l.kind)) (option_map signed_view l.best)
    (drop l.i l.self.trail)
    ≡ least_from (is_wrong l.core.positions (kind_view l.kind)) None (drop l.from l.self.trail)
