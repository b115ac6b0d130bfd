use Rattle.state_laws.proofs.next_of_each.Goals as goal
use Rattle.state_laws.proofs.Each.{next_of_each}

pub returns : goal.returns
returns c = next_of_each
