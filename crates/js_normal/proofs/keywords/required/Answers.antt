use Rattle.js_values.proofs.RunLemmas.{run-absent}
use Rattle.js_normal.proofs.keywords.required.Goals as goal

pub returns-in-None : goal.returns-in-None
returns-in-None c = run-absent _ c.args.words.now _ c.in-None.is
