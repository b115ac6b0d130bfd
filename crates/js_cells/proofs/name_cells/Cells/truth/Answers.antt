use Rattle.std.proofs.Common.{◌≡◌, map, length, get_or, false, ap, ◌∙◌, arith}
use Rattle.cells.specs.Cells.{naming, vector_at, vectors_of}
use Rattle.js_algebra.specs.View.{signed_view}
use Rattle.js_automaton.specs.AutomatonView.{rows_of}
use Rattle.js_cells.proofs.RowMarks.{kept_vector, vector-length, vector-told}
use Rattle.js_cells.proofs.name_cells.Cells.truth.Goals as goal

kept : (c : goal.After-index-as_slice-cell) → c.index-as_slice-cell.result
    ≡ vector_at (vectors_of c.args.self.now.core.now.positions
    (naming c.args.self.now.core.now.positions (map signed_view c.args.self.now.set.now))
    (rows_of c.args.self.now.automaton.now)) c.args.cell
kept c =
    kept_vector c.args.self.now.vectors.keys c.as_slice.result.now c.args.cell c.index-as_slice-cell.result
    (vectors_of c.args.self.now.core.now.positions
    (naming c.args.self.now.core.now.positions (map signed_view c.args.self.now.set.now))
    (rows_of c.args.self.now.automaton.now)) c.as_slice.ensures.keys c.args.self.now.grouped
    c.index-as_slice-cell.is c.requires.cell

pub get-requires : goal.get-requires
get-requires c =
    let T = c.args.self.now.core.now.positions in
    let long = vector-length T (naming T (map signed_view c.args.self.now.set.now))
    (rows_of c.args.self.now.automaton.now) c.args.cell c.requires.cell in
    omega (arith, c.requires.literal, ap length (kept c), long)

pub returns : goal.returns
returns c =
    let T = c.args.self.now.core.now.positions in
    let set = map signed_view c.args.self.now.set.now in
    let same =
    kept_vector c.args.self.now.vectors.keys c.as_slice.result.now c.args.cell c.index-as_slice-cell.result
    (vectors_of T (naming T set) (rows_of c.args.self.now.automaton.now)) c.as_slice.ensures.keys
    c.args.self.now.grouped c.index-as_slice-cell.is c.requires.cell in
    c.get.ensures ∙ ap (λ v. get_or v c.args.literal false) same
    ∙ vector-told T (naming T set) (rows_of c.args.self.now.automaton.now) c.args.cell c.requires.cell c.args.literal
    c.requires.literal
