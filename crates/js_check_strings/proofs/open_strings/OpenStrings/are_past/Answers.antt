use Rattle.std.proofs.Common.{sym, ◌∙◌, arith}
use Rattle.js_check_rows.specs.RowsView.{table_of as rows_table}
use Rattle.js_check_strings.specs.View.{table_of}
use Rattle.js_check_strings.proofs.LeastLaws.{all_past, one_left}
use Rattle.js_check_strings.proofs.open_strings.OpenStrings.are_past.Goals as goal

pub returns-then-not-is_past : goal.returns-then-not-is_past
returns-then-not-is_past c =
    let x = c.args.self.now in
    let n = c.mentioned-row-end.ensures.count in
    let t = c.loop-row-test.true in
    sym (one_left (table_of x) x.set (rows_table x.rows) c.args.labels.now c.loop-row.row (omega (arith, n, t))
    (sym c.is_past.ensures ∙ c.if-not-is_past.true))

pub returns : goal.returns
returns c =
    let x = c.args.self.now in
    let n = c.mentioned-row-end.ensures.count in
    let t = c.loop-row-test.false in
    sym (all_past (table_of x) x.set (rows_table x.rows) c.args.labels.now
    (λ r l. c.loop-row.invariant r (omega (arith, n, t, l))))
