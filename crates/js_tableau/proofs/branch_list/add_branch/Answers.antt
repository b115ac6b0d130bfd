-- The next branch has the next number.
use Rattle.std.proofs.Common.{refl, arith, sym, subst}
use Rattle.js_tableau.specs.Branches.{AreNumbered}
use Rattle.js_tableau.proofs.Branching.{numbered-more}
use Rattle.js_tableau.proofs.branch_list.add_branch.Goals as goal

pub returns-clause-numbered : goal.returns-clause-numbered
returns-clause-numbered c = λ h.
    subst (AreNumbered c.args.kind 0) (sym c.in_ok-push.ensures.items)
    (numbered-more c.args.kind 0 c.args.found.now.items _ refl (omega (arith, c.len-number.ensures)) h)
