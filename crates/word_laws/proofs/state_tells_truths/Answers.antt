use Rattle.word_laws.proofs.StateSteps.{state_truth}
use Rattle.word_laws.proofs.state_tells_truths.Goals as goal

pub returns : goal.returns
returns c = state_truth
