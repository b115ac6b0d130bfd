-- A limit of the automaton is one of the leaf.
use Rattle.std.proofs.Common.{map}
use Rattle.finders.specs.Names.{cells_of}
use Rattle.js_algebra.specs.View.{signed_view}
use Rattle.js_objects.proofs.LeafLaws.{names-say}
use Rattle.js_objects.proofs.leaf.open_leaf.Goals as goal

pub returns-in_err-automaton : goal.returns-in_err-automaton
returns-in_err-automaton c =
    let T = c.args.core.now.positions in
    let S = map signed_view c.args.set.now in
    names-say T c.args.number S (cells_of T S) c.in_err-automaton.field-0.0 c.in_err-automaton.ensures.fault
    c.from_residual.result c.from_residual.ensures.1

pub leaf_of_names-requires-clause-automaton : goal.leaf_of_names-requires-clause-automaton
leaf_of_names-requires-clause-automaton c = c.in_ok-automaton.ensures.names
