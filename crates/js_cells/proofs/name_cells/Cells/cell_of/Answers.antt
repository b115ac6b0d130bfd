use Rattle.std.proofs.Common.{◌<◌, map, length, sym, ◌∙◌, subst, arith}
use Rattle.js_algebra.specs.View.{signed_view}
use Rattle.js_automaton.specs.AutomatonView.{atoms_of, rows_of}
use Rattle.js_cells.specs.View.{cells_view}
use Rattle.js_cells.proofs.KeptCells.{places-length, place_at, cell_below, cell_led}
use Rattle.js_cells.proofs.RowMarks.{at_default}
use Rattle.js_cells.proofs.name_cells.Cells.cell_of.Goals as goal

pub index-requires : goal.index-requires
index-requires c =
    let x = c.args.self.now in
    let n = places-length x.core.now.positions (map signed_view x.set.now) (atoms_of x.automaton.now)
    (rows_of x.automaton.now) x.automaton.now.found.1.0 x.automaton.now.found.1.1 x.same x.places.items x.placed in
    omega (arith, c.requires, n)

pub returns-clause-row : goal.returns-clause-row
returns-clause-row c =
    let x = c.args.self.now in
    let T = x.core.now.positions in
    let S = map signed_view x.set.now in
    let atoms = atoms_of x.automaton.now in
    let rows = rows_of x.automaton.now in
    let are = x.automaton.now.found.1.0 in
    let few = x.automaton.now.found.1.1 in
    let n = places-length T S atoms rows are few x.same x.places.items x.placed in
    at_default c.index.result.now c.args.row x.places.items 0 (omega (arith, c.requires, n)) c.index.ensures
    ∙ place_at T S atoms rows are few x.same x.places.items x.placed c.args.row c.requires

pub returns-clause-words : goal.returns-clause-words
returns-clause-words c w s e =
    let x = c.args.self.now in
    cell_led x.core.now.positions (map signed_view x.set.now) (atoms_of x.automaton.now) (rows_of x.automaton.now)
    x.automaton.now.found.1.0 x.automaton.now.found.1.1 x.same w c.args.row s e
    ∙ sym (returns-clause-row c)

pub returns-clause-within : goal.returns-clause-within
returns-clause-within c =
    let x = c.args.self.now in
    subst (λ k. k < length (cells_view x).vectors) (sym (returns-clause-row c))
    (cell_below x.core.now.positions (map signed_view x.set.now) (atoms_of x.automaton.now) (rows_of x.automaton.now)
    x.automaton.now.found.1.0 x.automaton.now.found.1.1 x.same c.args.row c.requires)
