-- At first the steps of the goal are left.
use Rattle.std.proofs.Common.{◌≡◌, [], true, refl, ap, sym, ◌∙◌, subst, reverse, length, ◌+◌, ◌≤◌, arith}
use Rattle.js_algebra.specs.View.{are_in_table}
use Rattle.js_algebra.specs.SignedSets.{with_members}
use Rattle.js_algebra.proofs.Grown.{members_in_table}
use Rattle.js_tableau.specs.Branches.{most_ends}
use Rattle.js_tableau.specs.Progress.{AreFine}
use Rattle.js_tableau.proofs.Remaining.{first_left}
use Rattle.js_tableau.proofs.visits.Tree.begin.Goals as goal

pub returns-clause-tree : goal.returns-clause-tree
returns-clause-tree c = λ t.
    let m = c.in_ok-begin.ensures.members ∙ ap (λ g. with_members g []) c.as_slice.ensures.list in
    record {
      stands = record {
        in_table = subst (λ ms. are_in_table c.args.core.now.positions ms ≡ true) (sym m)
            (members_in_table c.args.core.now.positions c.args.goal.now [] 0 c.requires refl);
        covered = c.in_ok-begin.ensures.covered;
        fine = subst (λ es. AreFine c.args.core.now.positions t c.begin.new.self.trail
            c.begin.new.self.settled.items (reverse es)) (sym c.clear.ensures.items) tt;
      };
      few = subst (λ es. 0 + length es ≤ most_ends) (sym c.clear.ensures.items) (omega arith);
      fresh = λ b. c.in_ok-begin.ensures.settled;
    }

pub returns-clause-left : goal.returns-clause-left
returns-clause-left c = λ t.
    first_left c.args.core.now.positions t c.args.goal.now c.begin.new.self.trail c.clear.new.self.items
    c.as_slice.ensures.rising
    (c.in_ok-begin.ensures.members ∙ ap (λ g. with_members g []) c.as_slice.ensures.list)
    c.clear.ensures.items
