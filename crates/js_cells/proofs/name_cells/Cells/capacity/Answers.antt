use Rattle.std.proofs.Common.{◌<◌, [], ◌++◌, length, get_or, min, nat_eq, ap, sym, subst, ◌∙◌, arith}
use Rattle.cells.specs.Cells.{cell_of}
use Rattle.word_states.specs.Classes.{characters}
use Rattle.finders.specs.WordsFound.{far, words_found}
use Rattle.js_automaton.specs.AutomatonView.{atoms_of, rows_of}
use Rattle.cell_laws.proofs.Rows.{first_row}
use Rattle.js_cells.specs.View.{cells_view}
use Rattle.js_cells.specs.Counting.{IsCount}
use Rattle.js_cells.proofs.RowMarks.{at_default}
use Rattle.js_cells.proofs.name_cells.Cells.capacity.Goals as goal
use Rattle.word_laws.proofs.RowLaws.{row_zero}

pub returns-clause-number : goal.returns-clause-number
returns-clause-number c =
    let x = c.args.self.now in
    let atoms = atoms_of x.automaton.now in
    let rows = rows_of x.automaton.now in
    let l : 0 < length rows = (first_row atoms rows x.automaton.now.found.1.0).0 in
    let m : 0 < length c.in_ok-numbers.numbers.items = omega (arith, l, c.in_ok-numbers.ensures.length) in
    at_default c.index.result.now 0 c.in_ok-numbers.numbers.items 0 m c.index.ensures
    ∙ c.in_ok-numbers.ensures.numbers 0 l
    ∙ ap (λ v. min 65537 (length (words_found characters far
    (λ w. nat_eq (cell_of x.core.now.positions (cells_view x) (v ++ w)) c.args.cell))))
    (row_zero atoms rows x.automaton.now.found.1.0)

pub returns-clause-exact : goal.returns-clause-exact
returns-clause-exact c =
    let x = c.args.self.now in
    let atoms = atoms_of x.automaton.now in
    let rows = rows_of x.automaton.now in
    let numbers = c.in_ok-numbers.numbers.items in
    let l : 0 < length rows = (first_row atoms rows x.automaton.now.found.1.0).0 in
    let m : 0 < length numbers = omega (arith, l, c.in_ok-numbers.ensures.length) in
    subst (λ u. IsCount x.core.now.positions (cells_view x) c.args.cell u c.index.result.now)
    (row_zero atoms rows x.automaton.now.found.1.0)
    (subst (λ n. IsCount x.core.now.positions (cells_view x) c.args.cell (get_or rows 0 []) n)
    (sym (at_default c.index.result.now 0 numbers 0 m c.index.ensures))
    (c.in_ok-numbers.ensures.exact 0 l))
