-- A member is of the table.
use Rattle.std.proofs.Common.{sym}
use Rattle.goal_laws.proofs.Signs.{every-has}
use Rattle.js_algebra.specs.View.{signed_view, is_in_table}
use Rattle.js_check_trees.proofs.steps.has_wrong.Goals as goal

pub is_wrong-requires : goal.is_wrong-requires
is_wrong-requires c =
    every-has (is_in_table c.args.core.now.positions) c.args.set.now (signed_view c.args.x) c.requires
    (sym c.if-has.ensures)
