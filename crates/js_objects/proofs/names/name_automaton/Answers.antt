-- The limits of the automaton are those of the cells.
use Rattle.std.proofs.Common.{map, ap, ◌∙◌}
use Rattle.finders.specs.Names.{cells_of}
use Rattle.js_algebra.specs.View.{signed_view}
use Rattle.js_nfa.specs.AtomView.{atom_view}
use Rattle.js_objects.proofs.Finding.{built-of, built-fails, memory-fails}
use Rattle.js_objects.proofs.names.name_automaton.Goals as goal

pub returns-in_err-atoms-clause-fault : goal.returns-in_err-atoms-clause-fault
returns-in_err-atoms-clause-fault c =
    memory-fails c.from_residual.result (cells_of c.args.core.now.positions (map signed_view c.args.set.now))
    c.from_residual.ensures.1

pub returns-clause-names : goal.returns-clause-names
returns-clause-names c =
    built-of c.args.core.now.positions (map signed_view c.args.set.now) c.of.result (λ a. a.now)
    (map atom_view c.as_slice.result.now) (ap (map atom_view) c.as_slice.ensures.value ∙ c.in_ok-atoms.ensures)
    c.of.ensures.atoms c.of.ensures.none

pub returns-clause-fault : goal.returns-clause-fault
returns-clause-fault c =
    built-fails c.args.core.now.positions (map signed_view c.args.set.now) c.of.result
    (map atom_view c.as_slice.result.now) (ap (map atom_view) c.as_slice.ensures.value ∙ c.in_ok-atoms.ensures)
    c.of.ensures.fault
