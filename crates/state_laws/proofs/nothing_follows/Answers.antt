use Rattle.state_laws.proofs.nothing_follows.Goals as goal
use Rattle.state_laws.proofs.Nothing.{nothing_follows}

pub returns : goal.returns
returns c = nothing_follows
