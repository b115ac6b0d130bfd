use Rattle.state_laws.proofs.steps_by_follow_sets.Goals as goal
use Rattle.state_laws.proofs.Each.{steps_by_follow_sets}

pub returns : goal.returns
returns c = steps_by_follow_sets
