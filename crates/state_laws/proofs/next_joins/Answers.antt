use Rattle.state_laws.proofs.next_joins.Goals as goal
use Rattle.state_laws.proofs.Sets.{next_joins}

pub returns : goal.returns
returns c = next_joins
