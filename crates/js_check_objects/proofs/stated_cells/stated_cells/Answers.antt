-- What the rows get are the vectors of their words.
use Rattle.std.proofs.Common.{map, length, ap, sym, ◌∙◌, arith}
use Rattle.std.proofs.lemmas.List.{length-map}
use Rattle.cells.specs.Cells.{naming}
use Rattle.js_algebra.specs.View.{signed_view}
use Rattle.js_nfa.specs.AtomView.{atom_view}
use Rattle.js_said.proofs.Literals.{said_each, said_vectors, said_places}
use Rattle.js_check_rows.specs.RowsView.{atoms_of}
use Rattle.js_said.specs.Vectors.{vectors_in}
use Rattle.js_check_objects.specs.Cells.{rows_of}
use Rattle.js_said.proofs.RowVectors.{vectors-few}
use Rattle.js_check_objects.proofs.RowCells.{are_told}
use Rattle.js_check_objects.proofs.stated_cells.stated_cells.Goals as goal

pub group-requires : goal.group-requires
group-requires c =
    said_each c.args.core.now.positions (map atom_view c.in_ok-taken.taken.atoms.keys) (atoms_of c.args.rows.now)
    (naming c.args.core.now.positions (map signed_view c.args.set.now)) c.in_ok-taken.taken.said.items
    c.as_slice.result.now c.as_slice.ensures.value (c.in_ok-taken.ensures.atoms ∙ sym c.requires.atoms)
    c.in_ok-taken.ensures.said

pub invariant_of-result : goal.invariant_of-result
invariant_of-result c =
    let T = c.args.core.now.positions in
    let A = map atom_view c.in_ok-taken.taken.atoms.keys in
    let B = atoms_of c.args.rows.now in
    let xs = naming T (map signed_view c.args.set.now) in
    let rows = rows_of c.args.rows.now in
    let vectors = c.in_ok-vectors.ensures
    ∙ said_vectors T A B xs c.in_ok-taken.taken.said.items c.as_slice.result.now c.as_slice.ensures.value
    (c.in_ok-taken.ensures.atoms ∙ sym c.requires.atoms) c.in_ok-taken.ensures.said rows
    (vectors_in c.in_ok-grouped.grouped.vectors.keys) c.in_ok-grouped.ensures.vectors in
    record {
      told = are_told T xs (map signed_view c.in_ok-taken.taken.names.items) rows
          (vectors_in c.in_ok-vectors.vectors.items) c.in_ok-taken.ensures.names vectors;
      few = omega (
        arith,
        vectors-few T xs rows,
        ap length vectors,
        length-map c.in_ok-vectors.vectors.items (λ v. v.items),
        c.mentioned-mentioned.ensures.count,
        c.mentioned-mentioned.type_inv,
      );
    }

pub returns-clause-vectors : goal.returns-clause-vectors
returns-clause-vectors c =
    let T = c.args.core.now.positions in
    c.in_ok-vectors.ensures
    ∙ said_vectors T (map atom_view c.in_ok-taken.taken.atoms.keys) (atoms_of c.args.rows.now)
    (naming T (map signed_view c.args.set.now)) c.in_ok-taken.taken.said.items c.as_slice.result.now
    c.as_slice.ensures.value (c.in_ok-taken.ensures.atoms ∙ sym c.requires.atoms) c.in_ok-taken.ensures.said
    (rows_of c.args.rows.now) (vectors_in c.in_ok-grouped.grouped.vectors.keys) c.in_ok-grouped.ensures.vectors

pub returns-clause-places : goal.returns-clause-places
returns-clause-places c =
    let T = c.args.core.now.positions in
    said_places T (map atom_view c.in_ok-taken.taken.atoms.keys) (atoms_of c.args.rows.now)
    (naming T (map signed_view c.args.set.now)) c.in_ok-taken.taken.said.items c.as_slice.result.now
    c.as_slice.ensures.value (c.in_ok-taken.ensures.atoms ∙ sym c.requires.atoms) c.in_ok-taken.ensures.said
    (rows_of c.args.rows.now) (vectors_in c.in_ok-grouped.grouped.vectors.keys)
    c.in_ok-grouped.grouped.cells.items c.in_ok-grouped.ensures.vectors c.in_ok-grouped.ensures.cells
