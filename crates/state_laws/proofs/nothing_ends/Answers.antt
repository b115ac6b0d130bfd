use Rattle.state_laws.proofs.nothing_ends.Goals as goal
use Rattle.state_laws.proofs.Nothing.{nothing_ends}

pub returns : goal.returns
returns c = nothing_ends
