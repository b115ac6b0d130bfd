-- The cell is there, and has so many names.
use Rattle.std.proofs.Common.{◌≡◌, ◌∙◌, map, true, ap, sym, subst}
use Rattle.finders.specs.Names.{atoms_of_names}
use Rattle.js_algebra.specs.View.{signed_view, are_in_table}
use Rattle.js_cells.specs.View.{cells_view}
use Rattle.js_objects.specs.Steps.{IsOfNames}
use Rattle.search_tests.proofs.TestNames.{names-there}
use Rattle.search_tests.proofs.objects.names_of.Goals as goal

pub new-requires-clause-in_table : goal.new-requires-clause-in_table
new-requires-clause-in_table c =
    subst (λ z. are_in_table c.args.core.now.positions z ≡ true) (sym c.as_slice-set.ensures) c.requires.in_table

pub new-requires-clause-atoms : goal.new-requires-clause-atoms
new-requires-clause-atoms c =
    c.requires.automaton.atoms ∙ ap (atoms_of_names c.args.core.now.positions) (sym c.as_slice-set.ensures)

pub object_words-requires-clause-found : goal.object_words-requires-clause-found
object_words-requires-clause-found c =
    let T = c.args.core.now.positions in
    let a = c.args.automaton.now in
    let l = c.if-cell-len.false in
    let m = c.if-count-most.false in
    names-there T c.args.branch.now.set (map signed_view c.as_slice-set.result.now) a c.as_slice-set.ensures
    (subst (λ z. IsOfNames T z a) (sym c.as_slice-set.ensures) c.requires.automaton) (cells_view c.in_ok-cells.cells)
    c.in_ok-cells.ensures.cells c.args.cell c.args.count c.len.result c.in_ok-most.most c.len.ensures l
    c.in_ok-most.ensures.number m
