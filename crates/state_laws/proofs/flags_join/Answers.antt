use Rattle.state_laws.proofs.flags_join.Goals as goal
use Rattle.state_laws.proofs.FollowSetsLemmas.{flags_join}

pub returns : goal.returns
returns c = flags_join
