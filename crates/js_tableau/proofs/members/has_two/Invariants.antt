-- Two of those so far, or one of these and one of those that are left, or two of the latter.
use Rattle.std.proofs.Common.{◌≡◌, ◌&&◌, ◌||◌, drop}
use Rattle.documents.specs.Tests.{every, some}
use Rattle.goals.specs.Signed.{Plus, has}
use Rattle.goals.specs.Choices.{two_plus}
use Rattle.js_algebra.specs.View.{places}
use Rattle.js_tableau.proofs.members.has_two.Given as goal

abbrev pub invariant-loop-p : goal.invariant-loop-p
invariant-loop-p g l =
    some (every (λ x. has x (g.S.Members.members l.set))) (two_plus (places l.positions))
    ≡ (l.two
    || ((l.one && some (λ q. has (Plus q) (g.S.Members.members l.set)) (places (drop l.p-index l.positions)))
    || some (every (λ x. has x (g.S.Members.members l.set))) (two_plus (places (drop l.p-index l.positions)))))
