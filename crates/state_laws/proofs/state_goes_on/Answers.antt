use Rattle.state_laws.proofs.state_goes_on.Goals as goal
use Rattle.state_laws.proofs.States.{state_goes_on}

pub returns : goal.returns
returns c = state_goes_on
