-- Those that are left decide.
use Rattle.std.proofs.Common.{◌≡◌, map, drop, not, true}
use Rattle.goals.specs.Choices.{choices}
use Rattle.goals.specs.Tree.{first, has_choice}
use Rattle.js_algebra.specs.View.{signed_view, kind_view, are_in_table}
use Rattle.js_tableau.proofs.set_step.first_unsettled.Given as goal

abbrev pub invariant-loop-x : goal.invariant-loop-x
invariant-loop-x l =
    (first (λ x. not (has_choice (map signed_view l.set.items.now) (choices l.core.positions (kind_view l.kind) x))) (map signed_view (drop l.x-index l.set.items.now))
    ≡ first (λ x. not (has_choice (map signed_view l.set.items.now) (choices l.core.positions (kind_view l.kind) x))) (map signed_view l.set.items.now))
    × (are_in_table l.core.positions (map signed_view (drop l.x-index l.set.items.now)) ≡ true)
