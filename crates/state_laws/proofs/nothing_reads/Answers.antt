use Rattle.state_laws.proofs.nothing_reads.Goals as goal
use Rattle.state_laws.proofs.Nothing.{nothing_reads}

pub returns : goal.returns
returns c = nothing_reads
