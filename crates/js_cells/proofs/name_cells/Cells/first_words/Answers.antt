use Rattle.std.proofs.Common.{◌≡◌, ◌≤◌, map, length, take, sym, ap, subst, ◌∙◌}
use Rattle.std.proofs.lemmas.Result.{IfOk-weaker}
use Rattle.cells.specs.Cells.{naming}
use Rattle.js_algebra.specs.View.{signed_view}
use Rattle.js_automaton.specs.AutomatonView.{atoms_of, rows_of}
use Rattle.cell_laws.proofs.Rows.{first_row}
use Rattle.js_row_words.specs.RowWords.{words_from}
use Rattle.js_cells.specs.View.{cells_view}
use Rattle.js_cells.proofs.RowMarks.{words_in_first}
use Rattle.js_cells.proofs.name_cells.Cells.first_words.Goals as goal
use Rattle.word_laws.proofs.RowLaws.{row_zero}

pub first_words-requires-clause-count : goal.first_words-requires-clause-count
first_words-requires-clause-count c =
    let x = c.args.self.now in
    let T = x.core.now.positions in
    let atoms = atoms_of x.automaton.now in
    let rows = rows_of x.automaton.now in
    let are = x.automaton.now.found.1.0 in
    subst (λ ws. c.args.count ≤ length ws)
    (sym (words_in_first T (naming T (map signed_view x.set.now)) atoms rows are x.same x.places.items x.placed
    c.args.cell c.deref.result.now (c.deref.ensures.value ∙ c.in_ok-marks.ensures) (first_row atoms rows are).0
    (row_zero atoms rows are)))
    c.requires.count

pub returns : goal.returns
returns c =
    let x = c.args.self.now in
    let T = x.core.now.positions in
    let atoms = atoms_of x.automaton.now in
    let rows = rows_of x.automaton.now in
    let are = x.automaton.now.found.1.0 in
    IfOk-weaker c.first_words.result
    (λ words. words ≡ take c.args.count (words_from atoms rows c.deref.result.now 0))
    (λ words. words ≡ take c.args.count ((cells_view x).words c.args.cell))
    (λ words e.
    e
    ∙ ap (take c.args.count)
    (words_in_first T (naming T (map signed_view x.set.now)) atoms rows are x.same x.places.items x.placed
    c.args.cell c.deref.result.now (c.deref.ensures.value ∙ c.in_ok-marks.ensures) (first_row atoms rows are).0
    (row_zero atoms rows are)))
    c.first_words.ensures
