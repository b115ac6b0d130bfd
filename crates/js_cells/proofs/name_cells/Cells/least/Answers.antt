use Rattle.std.proofs.Common.{[], ◌∷◌, map, sym, ap, ◌∙◌, arith}
use Rattle.cells.specs.Cells.{naming}
use Rattle.js_algebra.specs.View.{signed_view}
use Rattle.js_automaton.specs.AutomatonView.{atoms_of, rows_of}
use Rattle.js_cells.proofs.CellRows.{cell_row, first_shorter, first_long}
use Rattle.js_cells.proofs.name_cells.Cells.least.Goals as goal

pub returns-in-None : goal.returns-in-None
returns-in-None c =
    let x = c.args.self.now in
    let T = x.core.now.positions in
    let xs = naming T (map signed_view x.set.now) in
    let (r, l, e) = cell_row T xs (rows_of x.automaton.now) c.args.cell c.requires in
    absurd (c.in-None.ensures r l e)

pub returns-in-Some-clause-first : goal.returns-in-Some-clause-first
returns-in-Some-clause-first c =
    let x = c.args.self.now in
    let (l, e, none) = c.in-Some.ensures in
    first_long x.core.now.positions (map signed_view x.set.now) (atoms_of x.automaton.now) (rows_of x.automaton.now)
    x.automaton.now.found.1.0 x.automaton.now.found.1.1 x.same c.args.cell c.in-Some.row l e none
    ∙ ap (λ n. n ∷ []) (sym c.word_length.ensures)

pub returns-in-Some-clause-least : goal.returns-in-Some-clause-least
returns-in-Some-clause-least c w i =
    let x = c.args.self.now in
    let (l, e, none) = c.in-Some.ensures in
    let s = first_shorter x.core.now.positions (map signed_view x.set.now) (atoms_of x.automaton.now)
    (rows_of x.automaton.now) x.automaton.now.found.1.0 x.automaton.now.found.1.1 x.same c.args.cell c.in-Some.row l e
    none w i in
    omega (arith, s, c.word_length.ensures)
