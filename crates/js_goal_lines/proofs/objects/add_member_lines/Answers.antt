-- A line, rows, bounds and plans.
use Rattle.std.proofs.Common.{◌≡◌, ℕ, ◌<◌, map, length, get_or, is_some, refl, ap, ap₂, sym, ◌∙◌, subst, arith}
use Rattle.frames.specs.ObjectFrame.{is_allowed}
use Rattle.certificate_lines.specs.Line as L
use Rattle.refutations.specs.ObjectLines.{capped}
use Rattle.js_algebra.specs.View.{signed_view}
use Rattle.js_automaton.specs.AutomatonView.{atoms_of, rows_of}
use Rattle.js_cells.specs.View.{cells_view}
use Rattle.js_lines.specs.declared.lines.CertLine.TheVariants as V
use Rattle.js_lines.specs.View.{line_view}
use Rattle.js_objects.specs.FrameView.{frame_view}
use Rattle.js_goal_lines.proofs.Adding.{one-more, on_ok}
use Rattle.js_goal_lines.proofs.Capped.{some-below}
use Rattle.js_goal_lines.proofs.Members.{members-added}
use Rattle.js_goal_lines.proofs.objects.add_member_lines.Goals as goal

pub add_cap_lines-requires : goal.add_cap_lines-requires
add_cap_lines-requires g c =
    let f = c.args.frame.now in
    let cells = c.as_slice.result.now in
    subst (λ x. (i : ℕ) → i < length cells → get_or cells i 0 < length (cells_view x).vectors)
    (sym c.name_cells.ensures)
    (some-below (length (cells_view f.cells).vectors) (λ k. is_some ((frame_view f).cap k))
    (is_allowed f.core.now.positions (cells_view f.cells) (map signed_view f.set.now)) cells
    (c.as_slice.ensures.value ∙ c.in_ok-capped.ensures))

pub returns : goal.returns
returns g c =
    let f = c.args.frame.now in
    let x = c.name_cells.result.now in
    let number = c.in-Ok.ensures in
    let many = c.len.ensures in
    let same = ap length c.in_ok-capped.ensures in
    let count : c.in-Ok.count ≡ length (capped (frame_view f)) = omega (arith, number, many, same) in
    on_ok _ _ c.add_plan_lines.result
    (λ h. members-added (g.D.Dead.number_of c.args.dead.now) f.core.now.positions x.core.now.positions
    (map signed_view f.set.now) (atoms_of c.args.automaton.now) (rows_of c.args.automaton.now)
    (rows_of x.automaton.now) (cells_view f.cells) (cells_view x) (frame_view f) c.as_slice.result.now
    (L.Objects c.rows.result c.in-Ok.count) (map line_view c.args.lines.now.items)
    (map line_view c.push.new.self.items) (map line_view c.add_row_lines.new.lines.items)
    (map line_view c.add_cap_lines.new.lines.items) (map line_view c.add_plan_lines.new.lines.items)
    (ap₂ L.Objects c.rows.ensures.count count)
    (ap (λ z. z.core.now.positions) c.name_cells.ensures ∙ c.requires.table)
    (ap (λ z. rows_of z.automaton.now) c.name_cells.ensures ∙ c.requires.rows) (ap cells_view c.name_cells.ensures)
    (c.as_slice.ensures.value ∙ c.in_ok-capped.ensures)
    (one-more c.args.lines.now.items c.push.new.self.items (V.Object c.rows.result c.in-Ok.count)
    (L.Objects c.rows.result c.in-Ok.count) c.in_ok-push.ensures.items refl)
    c.in_ok-add_row_lines.ensures c.in_ok-add_cap_lines.ensures h)
    c.add_plan_lines.ensures
