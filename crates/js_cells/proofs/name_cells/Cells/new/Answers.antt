use Rattle.std.proofs.Common.{map, ap, sym, ◌∙◌}
use Rattle.cells.specs.Cells.{naming}
use Rattle.js_algebra.specs.View.{signed_view}
use Rattle.js_automaton.specs.AutomatonView.{atoms_of, rows_of}
use Rattle.js_nfa.specs.AtomView.{atom_view}
use Rattle.js_said.proofs.Literals.{said_each, said_vectors, said_places, said_same}
use Rattle.js_cells.proofs.name_cells.Cells.new.Goals as goal

pub group-requires-clause-atoms : goal.group-requires-clause-atoms
group-requires-clause-atoms c =
    ap (map atom_view) c.as_slice-atoms.ensures.keys ∙ c.in_ok-taken.ensures.atoms ∙ sym c.requires.atoms

pub group-requires-clause-said : goal.group-requires-clause-said
group-requires-clause-said c =
    said_each c.args.core.now.positions (map atom_view c.in_ok-taken.taken.atoms.keys) (atoms_of c.args.automaton.now)
    (naming c.args.core.now.positions (map signed_view c.args.set.now)) c.in_ok-taken.taken.said.items
    c.as_slice.result.now c.as_slice.ensures.value (c.in_ok-taken.ensures.atoms ∙ sym c.requires.atoms)
    c.in_ok-taken.ensures.said

pub invariant_of-result : goal.invariant_of-result
invariant_of-result c =
    let T = c.args.core.now.positions in
    let A = map atom_view c.in_ok-taken.taken.atoms.keys in
    let B = atoms_of c.args.automaton.now in
    let xs = naming T (map signed_view c.args.set.now) in
    let ss = c.in_ok-taken.taken.said.items in
    let ts = c.as_slice.result.now in
    let rows = rows_of c.args.automaton.now in
    let vs = c.in_ok-grouped.grouped.vectors.keys in
    let atoms = c.in_ok-taken.ensures.atoms ∙ sym c.requires.atoms in
    record {
      atoms = c.in_ok-new.ensures.atoms;
      rows = c.in_ok-new.ensures.rows;
      named = c.in_ok-taken.ensures.names;
      grouped = said_vectors T A B xs ss ts c.as_slice.ensures.value atoms c.in_ok-taken.ensures.said rows vs
          c.in_ok-grouped.ensures.vectors;
      placed = said_places T A B xs ss ts c.as_slice.ensures.value atoms c.in_ok-taken.ensures.said rows vs
          c.in_ok-grouped.grouped.cells.items c.in_ok-grouped.ensures.vectors c.in_ok-grouped.ensures.cells;
      same = said_same T A B xs ss ts c.as_slice.ensures.value atoms c.in_ok-taken.ensures.said;
    }
