use Rattle.state_laws.proofs.follows_each.Goals as goal
use Rattle.state_laws.proofs.Each.{follows_each}

pub returns : goal.returns
returns c = follows_each
