use Rattle.std.proofs.Common.{[], map, arith}
use Rattle.word_states.specs.Rows.{targets_of}
use Rattle.certificate_lines.specs.Line as L
use Rattle.js_automaton.specs.AutomatonView.{atoms_of, rows_of}
use Rattle.js_lines.specs.View.{line_view}
use Rattle.js_row_lines.proofs.Adding.{made_none, made_more, made_all}
use Rattle.js_row_lines.proofs.rows.add_row_lines.Goals as goal

pub loop-row-init : goal.loop-row-init
loop-row-init c = made_none
    (λ w. L.Row (targets_of (atoms_of c.args.automaton.now) (rows_of c.args.automaton.now) w))
    (rows_of c.args.automaton.now) (map line_view c.args.lines.now.items)

pub loop-row-preserved : goal.loop-row-preserved
loop-row-preserved c = made_more
    (λ w. L.Row (targets_of (atoms_of c.args.automaton.now) (rows_of c.args.automaton.now) w))
    (rows_of c.args.automaton.now) (map line_view c.args.lines.now.items) (map line_view c.loop-row.lines.items)
    (map line_view c.add_row_line.new.lines.items) c.loop-row.row []
    (omega (arith, c.loop-row-test.true, c.rows-row-end.ensures.count))
    c.loop-row.invariant c.in_ok-add_row_line.ensures

pub returns : goal.returns
returns c = made_all
    (λ w. L.Row (targets_of (atoms_of c.args.automaton.now) (rows_of c.args.automaton.now) w))
    (rows_of c.args.automaton.now) (map line_view c.args.lines.now.items) (map line_view c.loop-row.lines.items)
    c.loop-row.row
    (omega (arith, c.loop-row-test.false, c.loop-row.auto.row-end, c.rows-row-end.ensures.count))
    c.loop-row.invariant
