-- The answer, and its meaning.
use Rattle.std.proofs.Common.{◌≡◌, true, sym, subst}
use Rattle.js_algebra.specs.View.{are_in_table}
use Rattle.js_objects.specs.Leaves.{Answers}
use Rattle.js_objects.proofs.Meaning.{follows, makes}
use Rattle.js_objects.proofs.leaf.object_alternatives.Goals as goal

pub leaf-requires-clause-in_table : goal.leaf-requires-clause-in_table
leaf-requires-clause-in_table c =
    subst (λ z. are_in_table c.args.core.now.positions z ≡ true) (sym c.as_slice.ensures) c.requires

pub returns-clause-answer : goal.returns-clause-answer
returns-clause-answer c =
    subst (λ z. Answers c.args.core.now.positions c.args.branch.now.id.number z c.leaf.result) c.as_slice.ensures
    c.leaf.ensures

pub returns-clause-follows : goal.returns-clause-follows
returns-clause-follows c =
    follows c.args.core.now.positions c.args.core.now.ranks c.len-length.ensures.table c.args.branch.now.id.number
    c.args.branch.now.set c.leaf.result
    (subst (λ z. Answers c.args.core.now.positions c.args.branch.now.id.number z c.leaf.result) c.as_slice.ensures
    c.leaf.ensures)

pub returns-clause-makes : goal.returns-clause-makes
returns-clause-makes c =
    makes c.args.core.now.positions c.args.core.now.ranks c.len-length.ensures.table c.args.branch.now.id.number
    c.args.branch.now.set c.leaf.result
    (subst (λ z. Answers c.args.core.now.positions c.args.branch.now.id.number z c.leaf.result) c.as_slice.ensures
    c.leaf.ensures)
