-- The lines that were added are those of the set.
use Rattle.std.proofs.Common.{map}
use Rattle.js_algebra.specs.View.{signed_view}
use Rattle.js_lines.specs.View.{line_view}
use Rattle.js_goal_lines.proofs.DeadLines.{object-added}
use Rattle.js_goal_lines.proofs.objects.add_object_lines.Goals as goal

pub returns-in-Ok-clause-dead : goal.returns-in-Ok-clause-dead
returns-in-Ok-clause-dead g c =
    object-added (g.D.Dead.number_of c.args.dead.now) c.args.core.now.positions c.args.lines.now.items
    (map line_view c.add_lines_of.new.lines.items) c.add_lines_of.result (map signed_view c.args.set.now)
    c.add_lines_of.ensures
