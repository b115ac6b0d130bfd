use Rattle.word_laws.proofs.StateSteps.{state_next}
use Rattle.word_laws.proofs.state_goes_on.Goals as goal

pub returns : goal.returns
returns c = state_next
