use Rattle.js_values.proofs.RunLemmas.{run-missing}
use Rattle.js_normal.proofs.keywords.dependencies.Goals as goal

pub returns-in-None : goal.returns-in-None
returns-in-None c = run-missing _ _ c.args.dependencies.now _ c.in-None.is
