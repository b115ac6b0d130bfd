-- The tree is within the limit, and its branches are what a list of them has.
use Rattle.std.proofs.Common.{arith, ap, sym, ◌∙◌, subst}
use Rattle.documents.specs.Tests.{some}
use Rattle.goals.specs.Signed.{meets}
use Rattle.goals.specs.Tree.{ends, branches}
use Rattle.js_algebra.specs.View.{kind_view}
use Rattle.js_tableau.specs.Branches.{AreBranches}
use Rattle.js_tableau.proofs.Branching.{are_branches, meets-sets}
use Rattle.js_tableau.proofs.branch_walk.BranchWalk.new.Goals as goal

pub see_all-requires : goal.see_all-requires
see_all-requires c = c.in_ok-tree.ensures.tree (kind_view c.args.kind)

pub returns-clause-walk : goal.returns-clause-walk
returns-clause-walk c =
    let t = kind_view c.args.kind in
    record {
      tree = c.in_ok-begin.ensures.tree t;
      few = omega (
        arith,
        c.in_ok-see_all.ensures.few,
        c.in_ok-begin.ensures.ends,
        ap ends (c.in_ok-begin.ensures.left t),
        ap ends (c.in_ok-tree.ensures.left t),
      );
    }

pub returns-clause-saturated : goal.returns-clause-saturated
returns-clause-saturated c =
    subst (AreBranches c.args.core.now.positions (kind_view c.args.kind) c.args.goal.now)
    (sym (ap branches (c.in_ok-begin.ensures.left (kind_view c.args.kind))))
    (are_branches c.args.core.now.positions c.args.core.now.ranks c.in_ok-tree.ensures.table (kind_view c.args.kind)
    c.args.goal.now c.requires.in_table c.in_ok-tree.ensures.rising)

pub returns-clause-meaning : goal.returns-clause-meaning
returns-clause-meaning c = λ D k.
    meets-sets c.args.core.now.positions c.args.core.now.ranks c.in_ok-tree.ensures.table (kind_view c.args.kind)
    c.args.goal.now c.requires.in_table D k
    ∙ ap (λ ss. some (λ S. meets c.args.core.now.positions S D) (branches ss))
    (sym (c.in_ok-begin.ensures.left (kind_view c.args.kind)))
