use Rattle.std.proofs.Common.{[], ◌∷◌, ◌++◌, take, ap, sym, ◌∙◌, arith}
use Rattle.std.proofs.lemmas.List.{take_more, take_all}
use Rattle.patterns.specs.CharSet.{is_scalar}
use Rattle.word_states.specs.Rows.{row_of}
use Rattle.word_laws.proofs.RowLaws.{row_below}
use Rattle.js_automaton.specs.AutomatonView.{atoms_of, rows_of}
use Rattle.js_cells.proofs.TruthLaws.{scalar_at, empty_row, class_below}
use Rattle.js_cells.proofs.walk.row_after.Goals as goal
use Rattle.list_laws.proofs.Tests.{all-take}

pub loop-c-init : goal.loop-c-init
loop-c-init c =
    let a = c.args.automaton.now in sym (empty_row (atoms_of a) (rows_of a) a.found.1.0)

pub target-row-requires-clause-row : goal.target-row-requires-clause-row
target-row-requires-clause-row c =
    let a = c.args.automaton.now in
    let w = take c.loop-c.c-index c.args.word.now in
    let low = row_below (atoms_of a) (rows_of a) a.found.1.0 w
    (all-take is_scalar c.loop-c.c-index c.args.word.now c.requires.word) in
    omega (arith, low, c.loop-c.invariant)

pub target-row-requires-clause-class : goal.target-row-requires-clause-class
target-row-requires-clause-class c =
    let low = class_below (atoms_of c.args.automaton.now) c.c-item.result
    (scalar_at c.args.word.now c.loop-c.c-index c.c-item.result c.requires.word c.loop-c-test.true c.c-item.is) in
    omega (arith, low, c.class_at.ensures)

pub loop-c-preserved : goal.loop-c-preserved
loop-c-preserved c =
    let a = c.args.automaton.now in
    let w = c.args.word.now in
    let i = c.loop-c.c-index in
    c.target-row.ensures.words (take i w) c.c-item.result (all-take is_scalar i w c.requires.word)
    (scalar_at w i c.c-item.result c.requires.word c.loop-c-test.true c.c-item.is) c.loop-c.invariant c.class_at.ensures
    ∙ ap (row_of (atoms_of a) (rows_of a))
    (sym (take_more w i c.c-item.result c.loop-c-test.true ∙ ap (λ z. take i w ++ z ∷ []) (sym c.c-item.is)))

pub returns : goal.returns
returns c =
    let a = c.args.automaton.now in
    c.loop-c.invariant
    ∙ ap (row_of (atoms_of a) (rows_of a)) (take_all c.loop-c.c-index c.args.word.now c.loop-c-test.false)
