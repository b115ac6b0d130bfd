use Rattle.std.proofs.Common.{◌∙◌, sym, ap, if◌then◌else◌}
use Rattle.word_states.specs.PatternState.{done, reading, numbers_from}
use Rattle.js_nfa.specs.View.{tree_of}
use Rattle.js_nfa.proofs.StateSteps.{first-is}
use Rattle.js_nfa.proofs.nfa.Nfa.first_state.Goals as goal

pub returns-then-ends : goal.returns-then-ends
returns-then-ends c =
    sym (ap (λ x. if x then done else reading (numbers_from 0 c.in_ok-none.none.flags)) c.if-ends.true)
    ∙ first-is (tree_of c.args.self.now) _ c.in_ok-none.none.flags c.ends.result c.in_ok-none.ensures c.ends.ensures

pub returns-else-ends : goal.returns-else-ends
returns-else-ends c =
    sym (ap (λ x. if x then done else reading (numbers_from 0 c.in_ok-none.none.flags)) c.if-ends.false)
    ∙ first-is (tree_of c.args.self.now) _ c.in_ok-none.none.flags c.ends.result c.in_ok-none.ensures c.ends.ensures
