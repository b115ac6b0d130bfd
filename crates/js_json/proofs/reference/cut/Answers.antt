use Rattle.std.proofs.Common.{refl}
use Rattle.js_json.proofs.ReferenceLemmas.{cut-at}
use Rattle.js_json.proofs.reference.cut.Goals as goal

pub returns-clause-before : goal.returns-clause-before
returns-clause-before c =
    let parts = cut-at c.args.text.now _ c.split_once.result c.utf8.text refl refl c.split_once.ensures.cases in
    rw c.unwrap_or.ensures parts.0

pub returns-clause-after : goal.returns-clause-after
returns-clause-after c =
    let parts = cut-at c.args.text.now _ c.split_once.result c.utf8.text refl refl c.split_once.ensures.cases in
    rw c.unwrap_or.ensures parts.1
