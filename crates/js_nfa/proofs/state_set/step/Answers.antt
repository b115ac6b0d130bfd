use Rattle.std.proofs.Common.{◌∙◌, false, ap}
use Rattle.word_states.specs.PatternState.{PatternState}
use Rattle.js_nfa.specs.View.{tree_of, after}
use Rattle.js_nfa.proofs.StateSteps.{after-word}
use Rattle.js_nfa.proofs.state_set.step.Goals as goal

pub returns-clause-word : goal.returns-clause-word
returns-clause-word c = λ w e.
    ap (λ (s : PatternState). (false, s)) c.in_ok-state.ensures
    ∙ ap (after (tree_of c.args.nfa.now) c.args.c) e
    ∙ after-word (tree_of c.args.nfa.now) w c.args.c
