use Rattle.std.proofs.Common.{arith}
use Rattle.js_check_rows.specs.MentionsView.{atoms_in}
use Rattle.js_check_rows.proofs.MentionLemmas.{words_count}
use Rattle.js_check_rows.proofs.RowLemmas.{kept_table, kept_length, row_refused, table_next, table_tells}
use Rattle.js_check_rows.proofs.rows.Rows.take.Goals as goal

pub returns-then-self-mentioned-clause-wrong : goal.returns-then-self-mentioned-clause-wrong
returns-then-self-mentioned-clause-wrong c =
    let r = c.args.self.now in
    let m = r.mentions in
    let n = words_count (atoms_in m) m.list.items in
    let k = kept_length m r.stated r.targets.items in
    let t = c.if-self-mentioned.true in
    let e = c.len-mentioned.ensures in
    row_refused (atoms_in m) m.count (kept_table m r.stated r.targets.items) c.args.targets.now
    (λ l w. omega (arith, l, n, k, t, e))

pub overflow_add-self : goal.overflow_add-self
overflow_add-self c =
    let m = c.args.self.now.mentions in
    let f = m.few in
    let s = m.small in
    let t = c.if-self-mentioned.false in
    let e = c.len-mentioned.ensures in
    omega (arith, f, s, t, e)

pub returns-in-Ok-clause-right : goal.returns-in-Ok-clause-right
returns-in-Ok-clause-right c =
    let r = c.args.self.now in
    let m = r.mentions in
    let n = words_count (atoms_in m) m.list.items in
    let t = c.if-self-mentioned.false in
    let e = c.len-mentioned.ensures in
    let d = c.if-targets-classes.false in
    let f = c.classes.ensures in
    table_next m c.follow.new.self r.stated r.targets.items c.extend_from_slice.new.self.items c.args.targets.now
    c.in-Ok.ensures.tuples c.in_ok-extend_from_slice.ensures.items r.size (omega (arith, d, f)) (omega (arith, t, e, n))
    c.in-Ok.ensures.right

pub returns-in-Err-clause-wrong : goal.returns-in-Err-clause-wrong
returns-in-Err-clause-wrong c =
    let r = c.args.self.now in
    let m = r.mentions in
    let n = words_count (atoms_in m) m.list.items in
    let t = c.if-self-mentioned.false in
    let e = c.len-mentioned.ensures in
    let d = c.if-targets-classes.false in
    let f = c.classes.ensures in
    table_tells m r.stated r.targets.items c.args.targets.now c.in-Err.fault (omega (arith, d, f))
    (omega (arith, t, e, n)) c.in-Err.ensures.wrong
