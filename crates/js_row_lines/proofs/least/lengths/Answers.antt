use Rattle.std.proofs.Common.{[], ◌∷◌, ◌++◌, refl, ap, ◌∙◌, arith}
use Rattle.js_automaton.specs.AutomatonView.{atoms_of, rows_of}
use Rattle.js_row_lines.proofs.RowLengths.{length_first, has_length, length_small, length_next, lengths_all}
use Rattle.js_row_lines.proofs.least.lengths.Goals as goal

pub loop-row-init : goal.loop-row-init
loop-row-init c =
    let w = c.rows-row-end.ensures.words [] refl in
    length_first (atoms_of c.args.automaton.now) (rows_of c.args.automaton.now) c.args.automaton.now.found.1.0
    c.push.new.self.items
    (c.in_ok-push.ensures.items ∙ ap (λ z. z ++ 0 ∷ []) c.in_ok-lengths.ensures.items)
    (omega (arith, w, c.rows-row-end.ensures.count))

pub index-requires : goal.index-requires
index-requires c =
    let a = c.args.automaton.now in
    let e = has_length (atoms_of a) (rows_of a) a.found.1.0 c.args.steps.now c.requires.steps c.loop-row.row
    c.rows-row-end.result c.loop-row.auto.row c.loop-row-test.true c.rows-row-end.ensures.count
    c.loop-row.lengths.items c.loop-row.invariant in
    omega (arith, e, c.loop-row.lengths.ok)

pub overflow_add-index : goal.overflow_add-index
overflow_add-index c =
    let a = c.args.automaton.now in
    let s = length_small (atoms_of a) (rows_of a) a.found.1.0 c.args.steps.now c.requires.steps c.loop-row.row
    c.rows-row-end.result c.loop-row.auto.row c.loop-row-test.true c.rows-row-end.ensures.count
    c.loop-row.lengths.items c.loop-row.invariant c.index.result.now c.index.result.now c.index.ensures a.found.1.1 in
    omega (arith, s)

pub loop-row-preserved : goal.loop-row-preserved
loop-row-preserved c =
    let a = c.args.automaton.now in
    length_next (atoms_of a) (rows_of a) a.found.1.0 c.args.steps.now c.requires.steps c.loop-row.row
    c.rows-row-end.result c.loop-row.auto.row c.loop-row-test.true c.rows-row-end.ensures.count
    c.loop-row.lengths.items c.loop-row.invariant c.index.result.now c.index.result.now c.index.ensures
    c.push-in-loop-row.new.self.items c.in_ok-push-2.ensures.items

pub returns : goal.returns
returns c =
    let w = c.rows-row-end.ensures.words [] refl in
    let b = c.loop-row.auto.row-end in
    lengths_all (rows_of c.args.automaton.now) c.loop-row.lengths.items c.loop-row.row
    (omega (arith, w, c.loop-row-test.false, b, c.rows-row-end.ensures.count)) c.loop-row.invariant
