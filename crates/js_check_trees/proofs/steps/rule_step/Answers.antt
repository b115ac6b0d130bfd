-- A rule splits the set where it is a member's.
use Rattle.std.proofs.Common.{sym}
use Rattle.goal_laws.proofs.Signs.{every-has}
use Rattle.js_algebra.specs.View.{signed_view, kind_view, is_in_table}
use Rattle.js_check_trees.proofs.StepLaws.{no-member, splits}
use Rattle.js_check_trees.proofs.steps.rule_step.Goals as goal

pub is_literal-requires : goal.is_literal-requires
is_literal-requires c =
    every-has (is_in_table c.args.core.now.positions) c.args.set.now (signed_view c.args.x) c.requires.in_table
    (sym c.if-not-has.ensures)

pub returns-then-not-has-clause-told : goal.returns-then-not-has-clause-told
returns-then-not-has-clause-told c =
    no-member c.args.core.now.positions (kind_view c.args.kind) c.args.set.now (signed_view c.args.x)
    c.if-not-has.ensures

pub returns-clause-told : goal.returns-clause-told
returns-clause-told c =
    splits c.args.core.now.positions (kind_view c.args.kind) c.args.set.now (signed_view c.args.x)
    c.if-not-has.ensures c.if-is_literal.ensures

pub returns-clause-splits : goal.returns-clause-splits
returns-clause-splits c =
    every-has (is_in_table c.args.core.now.positions) c.args.set.now (signed_view c.args.x) c.requires.in_table
    (sym c.if-not-has.ensures)
