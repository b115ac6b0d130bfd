use Rattle.pattern_laws.proofs.Counts.{width_of-count}
use Rattle.pattern_laws.proofs.width_is_the_count.Goals as goal

pub returns : goal.returns
returns c = width_of-count
