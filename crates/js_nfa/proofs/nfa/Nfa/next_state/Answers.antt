use Rattle.std.proofs.Common.{◌∙◌, sym, ap}
use Rattle.state_laws.specs.Flow.{next_state}
use Rattle.js_nfa.specs.View.{tree_of, state_view}
use Rattle.js_nfa.proofs.StateSteps.{next-done, next-more}
use Rattle.js_nfa.proofs.nfa.Nfa.next_state.Goals as goal

pub returns-then-advance : goal.returns-then-advance
returns-then-advance c =
    next-done (tree_of c.args.self.now) c.args.first c.args.character c.in-Reading.read.flags
    c.advance.new.reads.flags c.advance.result c.advance.ensures.flags c.advance.ensures.done c.if-advance.true
    ∙ sym (ap (λ s. next_state (tree_of c.args.self.now) c.args.first c.args.character (state_view s)) c.in-Reading.is)

pub returns-else-advance : goal.returns-else-advance
returns-else-advance c =
    next-more (tree_of c.args.self.now) c.args.first c.args.character c.in-Reading.read.flags
    c.advance.new.reads.flags c.advance.result c.advance.ensures.flags c.advance.ensures.done c.if-advance.false
    ∙ sym (ap (λ s. next_state (tree_of c.args.self.now) c.args.first c.args.character (state_view s)) c.in-Reading.is)
