use Rattle.state_laws.proofs.follow_joins.Goals as goal
use Rattle.state_laws.proofs.FollowsUnion.{follow_joins}

pub returns : goal.returns
returns c = follow_joins
