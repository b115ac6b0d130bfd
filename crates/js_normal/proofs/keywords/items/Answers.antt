use Rattle.js_values.proofs.RunLemmas.{run-missing}
use Rattle.js_normal.proofs.keywords.items.Goals as goal

pub returns-in-None : goal.returns-in-None
returns-in-None c = run-missing _ _ c.args.items.now _ c.in-None.is
