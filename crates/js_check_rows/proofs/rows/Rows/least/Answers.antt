use Rattle.std.proofs.Common.{◌≡◌, ◌≤◌, ℕ, List, min, length, inl, inr, arith}
use Rattle.js_check_rows.specs.declared.rows.Rows.{Rows}
use Rattle.js_check_rows.specs.RowsView.{atoms_of, table_of}
use Rattle.js_check_rows.proofs.LabelLemmas.{AreFine, fine_begin, fine_next, least_tells, least_all}
use Rattle.js_check_rows.proofs.WholeLemmas.{whole_words, some_words}
use Rattle.js_check_rows.proofs.rows.Rows.least.Goals.{then-label_at-gt0, else-label_at-gt0}
use Rattle.js_check_rows.proofs.rows.Rows.least.Goals as goal

pub loop-row-init : goal.loop-row-init
loop-row-init c =
    let r = c.args.self.now in
    let w = whole_words r c.requires.whole in
    let k = c.shorter-known.ensures in
    let n = c.rows.ensures in
    let l = c.label_at.ensures in
    fine_begin (atoms_of r) (table_of r) c.args.labels.now c.shorter-known.result c.if-label_at-gt0.first
    (omega (arith, k, n, w))
    (elim c.if-label_at-gt0.branch [
      | then-label_at-gt0 v ↦ let t = v.if-label_at-gt0.true in inl (omega (arith, t, l), v.first-is)
      | else-label_at-gt0 v ↦ let t = v.if-label_at-gt0.false in inr ((λ m. omega (arith, t, l, m)), v.first-is)
    ])

pub first_too_great-first-requires-clause-first : goal.first_too_great-first-requires-clause-first
first_too_great-first-requires-clause-first c =
    let w = whole_words c.args.self.now c.requires.whole in
    let i = c.loop-row.invariant.within in
    omega (arith, w, i)

pub loop-row-preserved : goal.loop-row-preserved
loop-row-preserved c =
    let r = c.args.self.now in
    fine_next (atoms_of r) (table_of r) c.args.labels.now c.loop-row.row c.loop-row.first
    c.first_too_great-first.result c.loop-row.invariant c.first_too_great-first.ensures.before
    c.first_too_great-first.ensures.all c.first_too_great-first.ensures.from

-- after the last row that has a label
fine_end : (r : Rows) (labels : List ℕ) (row first known : ℕ) → AreFine (atoms_of r) (table_of r) labels row first
    → known ≤ row → known ≡ min (length labels) (length (table_of r).words)
    → AreFine (atoms_of r) (table_of r) labels (min (length labels) (length (table_of r).words)) first
fine_end r labels row first known h l e = record {
  within = h.within;
  zero = h.zero;
  fine = λ q k m. h.fine q k (omega (arith, m, l, e));
  from = h.from;
}

pub returns-then-first-known-clause-wrong : goal.returns-then-first-known-clause-wrong
returns-then-first-known-clause-wrong c =
    let r = c.args.self.now in
    let w = whole_words r c.requires.whole in
    let k = c.shorter-known.ensures in
    let n = c.rows.ensures in
    let e : c.shorter-known.result ≡ min (length c.args.labels.now) (length (table_of r).words) =
    omega (arith, k, n, w) in
    let t = c.loop-row-test.false in
    let f = c.if-first-known.true in
    least_tells (atoms_of r) (table_of r) c.args.labels.now c.loop-row.first
    (fine_end r c.args.labels.now c.loop-row.row c.loop-row.first c.shorter-known.result c.loop-row.invariant
    (omega (arith, t)) e)
    (inl (omega (arith, f, e)))

pub returns-then-labels-rows-clause-wrong : goal.returns-then-labels-rows-clause-wrong
returns-then-labels-rows-clause-wrong c =
    let r = c.args.self.now in
    let w = whole_words r c.requires.whole in
    let k = c.shorter-known.ensures in
    let n = c.rows.ensures in
    let e : c.shorter-known.result ≡ min (length c.args.labels.now) (length (table_of r).words) =
    omega (arith, k, n, w) in
    let t = c.loop-row-test.false in
    let d = c.if-labels-rows.true in
    let m = c.rows-2.ensures in
    least_tells (atoms_of r) (table_of r) c.args.labels.now c.loop-row.first
    (fine_end r c.args.labels.now c.loop-row.row c.loop-row.first c.shorter-known.result c.loop-row.invariant
    (omega (arith, t)) e)
    (inr (λ q. d (omega (arith, q, m, w))))

pub returns-clause-right : goal.returns-clause-right
returns-clause-right c =
    let r = c.args.self.now in
    let w = whole_words r c.requires.whole in
    let k = c.shorter-known.ensures in
    let n = c.rows.ensures in
    let e : c.shorter-known.result ≡ min (length c.args.labels.now) (length (table_of r).words) =
    omega (arith, k, n, w) in
    let t = c.loop-row-test.false in
    let d = c.if-labels-rows.false in
    let m = c.rows-2.ensures in
    let f = c.if-first-known.false in
    least_all (atoms_of r) (table_of r) c.args.labels.now c.loop-row.first
    (fine_end r c.args.labels.now c.loop-row.row c.loop-row.first c.shorter-known.result c.loop-row.invariant
    (omega (arith, t)) e)
    (some_words r) (omega (arith, f, e)) (omega (arith, d, m, w))
