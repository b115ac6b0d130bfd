-- The automaton is that of the branch's names.
use Rattle.std.proofs.Common.{◌≡◌, true, sym, subst}
use Rattle.js_algebra.specs.View.{are_in_table}
use Rattle.js_objects.specs.Steps.{IsOfNames}
use Rattle.search_tests.proofs.objects.names.Goals as goal

pub name_automaton-requires : goal.name_automaton-requires
name_automaton-requires c =
    subst (λ z. are_in_table c.args.core.now.positions z ≡ true) (sym c.as_slice-set.ensures) c.requires

pub names_of-requires-clause-automaton : goal.names_of-requires-clause-automaton
names_of-requires-clause-automaton c =
    subst (λ z. IsOfNames c.args.core.now.positions z c.in-Ok.automaton.now) c.as_slice-set.ensures
    c.in-Ok.ensures.names
