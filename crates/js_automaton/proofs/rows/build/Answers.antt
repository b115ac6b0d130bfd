use Rattle.std.proofs.Common.{sym, ◌∙◌, subst}
use Rattle.word_states.specs.Rows.{HaveStates}
use Rattle.js_automaton.specs.TuplesView.{atoms_of}
use Rattle.js_automaton.proofs.RowsLemmas.{all-few}
use Rattle.js_automaton.proofs.rows.build.Goals as goal

pub returns-clause-states : goal.returns-clause-states
returns-clause-states c = λ n s.
    all-few (atoms_of c.in_ok-tuples.tuples) c.in_ok-states.states.keys c.in_ok-states.targets.items
    c.in_ok-states.ensures.rows n (subst (λ z. HaveStates z n) (sym (c.in_ok-tuples.ensures ∙ c.in_ok-new.ensures.atoms)) s)
