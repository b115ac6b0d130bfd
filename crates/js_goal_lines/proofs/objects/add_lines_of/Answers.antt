-- The cells and the frame are those of the set's names.
use Rattle.std.proofs.Common.{◌≡◌, ◌++◌, map, sym, ◌∙◌}
use Rattle.refutations.specs.ObjectLines.{object_lines}
use Rattle.js_algebra.specs.View.{signed_view}
use Rattle.js_cells.specs.View.{cells_view}
use Rattle.js_lines.specs.View.{line_view}
use Rattle.js_objects.specs.FrameView.{frame_view}
use Rattle.js_row_lines.proofs.OwnRows.{error_says}
use Rattle.js_goal_lines.proofs.Adding.{same-piece}
use Rattle.js_goal_lines.proofs.Members.{members-are}
use Rattle.js_goal_lines.proofs.objects.add_lines_of.Goals as goal

pub add_member_lines-requires-clause-table : goal.add_member_lines-requires-clause-table
add_member_lines-requires-clause-table g c = c.in_ok-frame.ensures.cell_table ∙ sym c.in_ok-frame.ensures.table

pub returns-in_err-frame : goal.returns-in_err-frame
returns-in_err-frame g c =
    error_says c.from_residual.result
    (map line_view c.args.lines.now.items ≡ map line_view c.args.lines.now.items
    ++ object_lines (g.D.Dead.number_of c.args.dead.now) c.args.core.now.positions (map signed_view c.args.set.now))
    c.in_err-frame.field-0.0 c.from_residual.ensures.1

pub returns : goal.returns
returns g c =
    let f = c.in_ok-frame.frame in
    same-piece c.add_member_lines.result (map line_view c.args.lines.now.items)
    (map line_view c.add_member_lines.new.lines.items) _ _
    (members-are (g.D.Dead.number_of c.args.dead.now) c.args.core.now.positions (map signed_view c.args.set.now)
    c.args.automaton.now c.requires.automaton f.core.now.positions (map signed_view f.set.now) (cells_view f.cells)
    (frame_view f) c.in_ok-frame.ensures.table c.in_ok-frame.ensures.cells c.in_ok-frame.ensures.frame)
    c.add_member_lines.ensures
