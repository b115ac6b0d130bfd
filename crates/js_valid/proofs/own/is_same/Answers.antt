use Rattle.js_doc.specs.View.{view}
use Rattle.js_valid.proofs.SameLaws.{same-decided}
use Rattle.js_valid.proofs.own.is_same.Goals as goal

pub returns : goal.returns
returns c = same-decided c.equal.result (view c.args.a.now) (view c.args.b.now) c.equal.ensures
