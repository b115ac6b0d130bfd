-- The line states a bound.
use Rattle.std.proofs.Common.{map, ap, sym, ◌∙◌}
use Rattle.verdicts.specs.Duties.{after, after_bound}
use Rattle.verdicts.specs.Verdict.{cites}
use Rattle.js_algebra.specs.View.{signed_view}
use Rattle.js_lines.specs.View.{line_view}
use Rattle.js_check_rows.specs.RowsView.{table_of}
use Rattle.js_check_objects.specs.Bounds.{bounds_in}
use Rattle.js_check_objects.specs.OpenView.{bounds_duty}
use Rattle.js_check_objects.proofs.Runs.{answers_alone}
use Rattle.js_check_objects.proofs.stage.bound_line.Goals as goal

pub returns-in-Cap : goal.returns-in-Cap
returns-in-Cap c =
    let x = c.args.from in
    let T = x.core.now.positions in
    let S = map signed_view x.set.items in
    answers_alone T (cites c.args.goals.now) (bounds_duty x) (line_view c.args.line.now)
    (after_bound T S (table_of x.rows) x.left (bounds_in x.stated.items) (c.in-Cap.cell, c.as_slice.result.now))
    c.with_bound.result
    (ap (λ l. after T (cites c.args.goals.now) (bounds_duty x) (line_view l)) c.in-Cap.is
    ∙ ap (λ ds. after_bound T S (table_of x.rows) x.left (bounds_in x.stated.items) (c.in-Cap.cell, ds))
    (sym c.as_slice.ensures))
    c.with_bound.ensures
