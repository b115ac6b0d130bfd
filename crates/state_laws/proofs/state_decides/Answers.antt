use Rattle.state_laws.proofs.state_decides.Goals as goal
use Rattle.state_laws.proofs.States.{state_decides}

pub returns : goal.returns
returns c = state_decides
