use Rattle.state_laws.proofs.state_begins.Goals as goal
use Rattle.state_laws.proofs.States.{state_begins}

pub returns : goal.returns
returns c = state_begins
