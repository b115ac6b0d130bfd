use Rattle.state_laws.proofs.next_asks_sets.Goals as goal
use Rattle.state_laws.proofs.Sets.{next_asks_sets}

pub returns : goal.returns
returns c = next_asks_sets
