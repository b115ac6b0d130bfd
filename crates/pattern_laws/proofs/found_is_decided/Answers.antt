use Rattle.pattern_laws.proofs.Decides.{finds-decides}
use Rattle.pattern_laws.proofs.found_is_decided.Goals as goal

pub returns : goal.returns
returns c = finds-decides
