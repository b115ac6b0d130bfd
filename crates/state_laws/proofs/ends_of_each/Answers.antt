use Rattle.state_laws.proofs.ends_of_each.Goals as goal
use Rattle.state_laws.proofs.Each.{ends_of_each}

pub returns : goal.returns
returns c = ends_of_each
