use Rattle.std.proofs.Common.{◌∙◌, sym, ap}
use Rattle.state_laws.specs.Flow.{is_accepted}
use Rattle.js_nfa.specs.View.{tree_of, state_view}
use Rattle.js_nfa.proofs.StateSteps.{accepted-reading}
use Rattle.js_nfa.proofs.nfa.Nfa.is_accepted.Goals as goal

pub returns-in-Reading : goal.returns-in-Reading
returns-in-Reading c =
    c.ends.ensures
    ∙ sym (accepted-reading (tree_of c.args.self.now) c.args.is_empty c.in-Reading.read.flags)
    ∙ sym (ap (λ s. is_accepted (tree_of c.args.self.now) c.args.is_empty (state_view s)) c.in-Reading.is)
