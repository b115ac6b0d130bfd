use Rattle.js_values.proofs.RunLemmas.{run-missing}
use Rattle.js_normal.proofs.keywords.enumeration.Goals as goal

pub returns-in-None : goal.returns-in-None
returns-in-None c = run-missing _ _ c.args.values.now _ c.in-None.is
