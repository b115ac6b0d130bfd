-- One of those so far and none of those that are left, or none so far and one of those that are left.
use Rattle.std.proofs.Common.{◌≡◌, ◌&&◌, ◌||◌, map, drop}
use Rattle.documents.specs.Tests.{every, some}
use Rattle.goals.specs.Signed.{Minus, has}
use Rattle.goals.specs.Choices.{one_plus}
use Rattle.js_algebra.specs.View.{places}
use Rattle.js_tableau.proofs.members.has_one.Given as goal

abbrev pub invariant-loop-p : goal.invariant-loop-p
invariant-loop-p g l =
    some (every (λ x. has x (g.S.Members.members l.set))) (one_plus (places l.positions))
    ≡ ((l.one && every (λ x. has x (g.S.Members.members l.set)) (map Minus (places (drop l.p-index l.positions))))
    || (l.none_yet && some (every (λ x. has x (g.S.Members.members l.set))) (one_plus (places (drop l.p-index l.positions)))))
