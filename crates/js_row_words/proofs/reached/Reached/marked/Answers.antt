use Rattle.std.proofs.Common.{◌≡◌, ◌+◌, ◌-◌, ◌<◌, false, length, replicate, ◌∙◌, ap, subst, arith}
use Rattle.js_automaton.specs.AutomatonView.{atoms_of, rows_of}
use Rattle.js_row_words.proofs.ReachingLaws.{AreMarked, marked_first, marked_row, marked_none}
use Rattle.js_row_words.proofs.reached.Reached.marked.Goals as goal

pub loop-row-init : goal.loop-row-init
loop-row-init c =
    let rows = c.rows-rows.result in
    let none : 0 ≡ rows - rows = omega arith in
    subst
    (AreMarked (atoms_of c.args.automaton.now) (rows_of c.args.automaton.now) c.args.marks.now
    c.in_ok-seen.seen.items c.new.result.items)
    none
    (marked_first (atoms_of c.args.automaton.now) (rows_of c.args.automaton.now) c.args.marks.now
    c.in_ok-seen.seen.items c.new.result.items
    (c.in_ok-seen.ensures.items_if_clones_equal (λ y e. e) ∙ ap (λ z. replicate z false) c.rows-rows.ensures.count)
    c.new.ensures.items)

-- a row that isn't marked
pub loop-row-preserved : goal.loop-row-preserved
loop-row-preserved c =
    let atoms = atoms_of c.args.automaton.now in
    let L = rows_of c.args.automaton.now in
    let rows = c.rows-rows.result in
    let count = c.rows-rows.ensures.count in
    let t = c.loop-row-test.true in
    let m = c.loop-row.auto.row in
    let n = rows - c.loop-row.row in
    let row = c.loop-row.row - 1 in
    let l : n < length L = omega (arith, t, m, count) in
    let at : row ≡ length L - 1 - n = omega (arith, t, m, count) in
    let next : n + 1 ≡ rows - row = omega (arith, t, m) in
    subst (AreMarked atoms L c.args.marks.now c.loop-row.reached.seen.items c.loop-row.reached.list.items) next
    (marked_none atoms L c.args.marks.now c.loop-row.reached.seen.items c.loop-row.reached.list.items n
    c.loop-row.invariant row l at c.if-marks-row.false)

-- a row that is added
pub loop-row-preserved-in-Continue-branch-2 : goal.loop-row-preserved-in-Continue-branch-2
loop-row-preserved-in-Continue-branch-2 c =
    let atoms = atoms_of c.args.automaton.now in
    let L = rows_of c.args.automaton.now in
    let rows = c.rows-rows.result in
    let count = c.rows-rows.ensures.count in
    let t = c.loop-row-test.true in
    let m = c.loop-row.auto.row in
    let n = rows - c.loop-row.row in
    let row = c.loop-row.row - 1 in
    let l : n < length L = omega (arith, t, m, count) in
    let at : row ≡ length L - 1 - n = omega (arith, t, m, count) in
    let next : n + 1 ≡ rows - row = omega (arith, t, m) in
    subst (AreMarked atoms L c.args.marks.now c.add.new.self.seen.items c.add.new.self.list.items) next
    (marked_row atoms L c.args.marks.now c.loop-row.reached.seen.items c.loop-row.reached.list.items n
    c.loop-row.invariant row l at c.args.automaton.now.found.1.0 c.if-marks-row.true
    c.add.new.self.seen.items c.add.new.self.list.items c.in_ok-add.ensures.seen c.in_ok-add.ensures.listed)
