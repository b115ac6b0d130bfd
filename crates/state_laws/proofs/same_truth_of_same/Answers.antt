use Rattle.state_laws.proofs.same_truth_of_same.Goals as goal
use Rattle.state_laws.proofs.Alike.{same_truth_of_same}

pub returns : goal.returns
returns c = same_truth_of_same
