use Rattle.std.proofs.Common.{◌≡◌, ℕ, ◌<◌, ◌++◌, [], map, length, get_or, min, nat_eq, ◌∙◌}
use Rattle.list_laws.proofs.Lists.{get_or-in}
use Rattle.std.proofs.lemmas.Result.{IfOk-weaker}
use Rattle.cells.specs.Cells.{naming, cell_of}
use Rattle.word_states.specs.Classes.{characters}
use Rattle.word_laws.proofs.RowLaws.{rows_words}
use Rattle.word_laws.proofs.States.{same_laws}
use Rattle.finders.specs.WordsFound.{far, words_found}
use Rattle.js_algebra.specs.View.{signed_view}
use Rattle.js_automaton.specs.AutomatonView.{atoms_of, rows_of}
use Rattle.js_row_words.specs.CounterView as counter
use Rattle.js_row_words.specs.RowWords.{words_from}
use Rattle.js_cells.specs.View.{cells_view}
use Rattle.js_cells.specs.Counting.{IsCount}
use Rattle.js_cells.proofs.KeptCells.{counted}
use Rattle.js_cells.proofs.RowMarks.{numbers_in}
use Rattle.js_cells.proofs.name_cells.Cells.words_from.Goals as goal

pub returns-clause-numbers : goal.returns-clause-numbers
returns-clause-numbers c =
    let x = c.args.self.now in
    let T = x.core.now.positions in
    let rows = rows_of x.automaton.now in
    let marks = c.deref.result.now in
    let A = counter.atoms_of x.counter in
    let L = counter.rows_of x.counter in
    IfOk-weaker c.count.result
    (λ numbers. (r : ℕ) → r < length L
    → get_or numbers.items r 0 ≡ min 65537 (length (words_from A L marks r)))
    (λ numbers. (r : ℕ) → r < length rows
    → get_or numbers.items r 0 ≡ min 65537 (length (words_found characters far
    (λ w. nat_eq (cell_of T (cells_view x) (get_or rows r [] ++ w)) c.args.cell))))
    (λ numbers h.
    numbers_in T (naming T (map signed_view x.set.now)) (atoms_of x.automaton.now) rows x.automaton.now.found.1.0 x.same
    x.places.items x.placed c.args.cell marks (c.deref.ensures.value ∙ c.in_ok-marks.ensures) A L numbers.items
    x.atoms x.rows h)
    c.count.ensures.numbers

pub returns-clause-exact : goal.returns-clause-exact
returns-clause-exact c =
    let x = c.args.self.now in
    let T = x.core.now.positions in
    let S = map signed_view x.set.now in
    let atoms = atoms_of x.automaton.now in
    let rows = rows_of x.automaton.now in
    let are = x.automaton.now.found.1.0 in
    IfOk-weaker c.count.result
    (λ numbers. (r : ℕ) → r < length rows
    → get_or numbers.items r 0 ≡ min 65537 (length (words_found characters far
    (λ w. nat_eq (cell_of T (cells_view x) (get_or rows r [] ++ w)) c.args.cell))))
    (λ numbers. (r : ℕ) → r < length rows
    → IsCount T (cells_view x) c.args.cell (get_or rows r []) (get_or numbers.items r 0))
    (λ numbers h r l.
    let u = get_or rows r [] in
    counted T S atoms rows are x.automaton.now.found.1.1 x.same c.args.cell u r (l, (same_laws atoms).refl u)
    (rows_words atoms rows are u (get_or-in rows r [] l)) (get_or numbers.items r 0) (h r l))
    (returns-clause-numbers c)
