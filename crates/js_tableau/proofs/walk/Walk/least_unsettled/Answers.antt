-- The first waiting one that has no choice is the least, and all that was taken before it is settled.
use Rattle.std.proofs.Common.{◌≡◌, true, map, not, sym, ◌∙◌, subst, Some, None}
use Rattle.goals.specs.Choices.{choices}
use Rattle.goals.specs.Tree.{has_choice}
use Rattle.js_algebra.specs.View.{signed_view, kind_view}
use Rattle.js_tableau.specs.Walks.{IsLeast, are_settled_but}
use Rattle.js_tableau.proofs.Settling.{found_least, none_least, noted}
use Rattle.js_tableau.proofs.walk.Walk.least_unsettled.Goals as goal

pub returns-then-branch-clause-least : goal.returns-then-branch-clause-least
returns-then-branch-clause-least c =
    subst (λ t. IsLeast (λ y. not (has_choice t (choices c.args.core.now.positions (kind_view c.args.kind) y)))
    t (Some (signed_view c.in-Some.x)))
    c.loop-x.invariant.3
    (found_least c.args.core.now.positions (kind_view c.args.kind) c.loop-x.self.trail c.loop-x.self.waiting
    c.loop-x.self.settled.items
    c.loop-x.invariant.0 c.loop-x.invariant.1 c.in-Some.x c.pop.new.self c.in-Some.ensures.0 c.in-Some.ensures.1
    (sym c.if-branch.true ∙ c.in_ok-needs_choice.ensures.needs))

pub returns-then-branch-clause-settled : goal.returns-then-branch-clause-settled
returns-then-branch-clause-settled c =
    subst (λ t. are_settled_but c.args.core.now.positions (kind_view c.args.kind) t (signed_view c.in-Some.x)
    (map signed_view c.needs_choice.new.self.settled.items) ≡ true)
    c.loop-x.invariant.3
    (noted c.args.core.now.positions (kind_view c.args.kind) c.loop-x.self.trail c.loop-x.self.waiting
    c.loop-x.self.settled.items
    c.loop-x.invariant.0 c.loop-x.invariant.1 c.in-Some.x c.needs_choice.new.self.settled.items
    c.in_ok-needs_choice.ensures.settled
    (sym c.if-branch.true ∙ c.in_ok-needs_choice.ensures.needs))

pub returns-clause-least : goal.returns-clause-least
returns-clause-least c =
    subst (λ t. IsLeast (λ y. not (has_choice t (choices c.args.core.now.positions (kind_view c.args.kind) y)))
    t None)
    c.loop-x.invariant.3
    (none_least c.args.core.now.positions (kind_view c.args.kind) c.loop-x.self.trail c.loop-x.self.waiting
    c.loop-x.self.settled.items
    c.loop-x.invariant.0 c.loop-x.invariant.1 c.in_default.ensures)
