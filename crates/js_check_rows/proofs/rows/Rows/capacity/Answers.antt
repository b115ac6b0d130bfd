use Rattle.std.proofs.Common.{◌-◌, length, arith}
use Rattle.js_check_rows.specs.RowsView.{atoms_of, table_of}
use Rattle.js_check_rows.proofs.LabelLemmas.{enough_next, bound_missing, bound_small, bound_extra, kept_from, kept_bounds}
use Rattle.js_check_rows.proofs.WholeLemmas.{whole_words, some_words}
use Rattle.js_check_rows.proofs.rows.Rows.capacity.Goals as goal

pub returns-then-row-labels-clause-rule : goal.returns-then-row-labels-clause-rule
returns-then-row-labels-clause-rule c =
    kept_bounds (atoms_of c.args.self.now) (table_of c.args.self.now) c.args.marks.now c.args.labels.now

pub returns-then-row-labels-clause-wrong : goal.returns-then-row-labels-clause-wrong
returns-then-row-labels-clause-wrong c =
    let r = c.args.self.now in
    let w = whole_words r c.requires.whole in
    let n = c.rows-row-end.ensures in
    let l = c.loop-row-test.true in
    bound_missing (atoms_of r) (table_of r) c.args.marks.now c.args.labels.now c.loop-row.row c.loop-row.invariant
    c.if-row-labels.true (omega (arith, w, n, l))

pub returns-then-labels-row-clause-rule : goal.returns-then-labels-row-clause-rule
returns-then-labels-row-clause-rule c =
    kept_bounds (atoms_of c.args.self.now) (table_of c.args.self.now) c.args.marks.now c.args.labels.now

pub returns-then-labels-row-clause-wrong : goal.returns-then-labels-row-clause-wrong
returns-then-labels-row-clause-wrong c =
    let r = c.args.self.now in
    let w = whole_words r c.requires.whole in
    let n = c.rows-row-end.ensures in
    let l = c.loop-row-test.true in
    let a = c.asked.ensures in
    let t = c.if-labels-row.true in
    bound_small (atoms_of r) (table_of r) c.args.marks.now c.args.labels.now c.loop-row.row c.loop-row.invariant
    (omega (arith, w, n, l)) (omega (arith, a, t))

pub loop-row-preserved : goal.loop-row-preserved
loop-row-preserved c =
    let r = c.args.self.now in
    let w = whole_words r c.requires.whole in
    let n = c.rows-row-end.ensures in
    let l = c.loop-row-test.true in
    let a = c.asked.ensures in
    let t = c.if-labels-row.false in
    let f = c.if-row-labels.false in
    enough_next (atoms_of r) (table_of r) c.args.marks.now c.args.labels.now c.loop-row.row c.loop-row.invariant
    (omega (arith, f)) (omega (arith, w, n, l)) (omega (arith, a, t))

pub returns-then-labels-rows-clause-rule : goal.returns-then-labels-rows-clause-rule
returns-then-labels-rows-clause-rule c =
    kept_bounds (atoms_of c.args.self.now) (table_of c.args.self.now) c.args.marks.now c.args.labels.now

pub returns-clause-rule : goal.returns-clause-rule
returns-clause-rule c =
    kept_bounds (atoms_of c.args.self.now) (table_of c.args.self.now) c.args.marks.now c.args.labels.now

pub returns-then-labels-rows-clause-wrong : goal.returns-then-labels-rows-clause-wrong
returns-then-labels-rows-clause-wrong c =
    let r = c.args.self.now in
    let w = whole_words r c.requires.whole in
    let n = c.rows-row-end.ensures in
    let l = c.loop-row-test.false in
    let m = c.rows-then-labels-rows.ensures in
    let k = c.rows.ensures in
    let t = c.if-labels-rows.true in
    bound_extra (atoms_of r) (table_of r) c.args.marks.now c.args.labels.now c.rows-then-labels-rows.result
    (λ q a. c.loop-row.invariant q (omega (arith, a, n, l, m))) (omega (arith, w, m)) (omega (arith, t, m, k))

pub returns-clause-right : goal.returns-clause-right
returns-clause-right c =
    let r = c.args.self.now in
    let w = whole_words r c.requires.whole in
    let s = some_words r in
    let n = c.rows-row-end.ensures in
    let l = c.loop-row-test.false in
    let k = c.rows.ensures in
    let t = c.if-labels-rows.false in
    let (last, known, enough) = c.loop-row.invariant (length (table_of r).words - 1) (omega (arith, w, s, n, l)) in
    kept_from (atoms_of r) (table_of r) c.args.marks.now c.args.labels.now (omega (arith, last, w, s, t, k))
    (λ q a. (c.loop-row.invariant q (omega (arith, a, w, n, l))).2)
