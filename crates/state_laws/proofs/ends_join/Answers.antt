use Rattle.state_laws.proofs.ends_join.Goals as goal
use Rattle.state_laws.proofs.EndsUnion.{ends_join}

pub returns : goal.returns
returns c = ends_join
