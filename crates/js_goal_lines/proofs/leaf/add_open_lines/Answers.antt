-- The lines of a leaf by its kind.
use Rattle.std.proofs.Common.{map, ap, sym}
use Rattle.refutations.specs.GoalLines.{open_lines}
use Rattle.js_algebra.specs.View.{signed_view, kind_view}
use Rattle.js_lines.specs.View.{line_view}
use Rattle.js_goal_lines.proofs.Adding.{same-piece}
use Rattle.js_goal_lines.proofs.leaf.add_open_lines.Goals as goal

pub returns-in-Text : goal.returns-in-Text
returns-in-Text g c =
    same-piece c.add_string_lines.result (map line_view c.args.lines.now.items)
    (map line_view c.add_string_lines.new.lines.items) _ _
    (ap (λ k. open_lines (g.D.Dead.number_of c.args.dead.now) c.args.core.now.positions (kind_view k)
    (map signed_view c.args.set.now)) (sym c.in-Text.is))
    c.add_string_lines.ensures.lines

pub returns-in-Object : goal.returns-in-Object
returns-in-Object g c =
    same-piece c.add_object_lines.result (map line_view c.args.lines.now.items)
    (map line_view c.add_object_lines.new.lines.items) _ _
    (ap (λ k. open_lines (g.D.Dead.number_of c.args.dead.now) c.args.core.now.positions (kind_view k)
    (map signed_view c.args.set.now)) (sym c.in-Object.is))
    c.add_object_lines.ensures.lines
