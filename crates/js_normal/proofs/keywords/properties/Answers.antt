use Rattle.js_values.proofs.RunLemmas.{run-missing}
use Rattle.js_normal.proofs.keywords.properties.Goals as goal

pub returns-in-None : goal.returns-in-None
returns-in-None c = run-missing _ _ c.args.properties.now _ c.in-None.is
