use Rattle.std.proofs.Common.{◌∙◌, sym, ap}
use Rattle.state_laws.specs.Flow.{is_accepted}
use Rattle.state_laws.proofs.States.{state_decides}
use Rattle.js_nfa.specs.View.{tree_of}
use Rattle.js_nfa.proofs.StateSteps.{related}
use Rattle.js_nfa.proofs.state_set.accepts.Goals as goal

pub returns-clause-finds : goal.returns-clause-finds
returns-clause-finds c = λ w e.
    c.is_accepted.ensures
    ∙ ap (λ s. is_accepted (tree_of c.args.nfa.now) s.0 s.1) e
    ∙ sym (state_decides (tree_of c.args.nfa.now) w)

pub returns-clause-relation : goal.returns-clause-relation
returns-clause-relation c = λ w e.
    related (tree_of c.args.nfa.now) w c.is_accepted.result
    (c.is_accepted.ensures
    ∙ ap (λ s. is_accepted (tree_of c.args.nfa.now) s.0 s.1) e
    ∙ sym (state_decides (tree_of c.args.nfa.now) w))
