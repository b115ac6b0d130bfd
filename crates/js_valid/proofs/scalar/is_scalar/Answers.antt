use Rattle.js_valid.proofs.DepthLaws.{view-scalar}
use Rattle.js_valid.proofs.scalar.is_scalar.Goals as goal

pub returns-in_default : goal.returns-in_default
returns-in_default c = view-scalar c.args.doc.now c.in_default.not-List c.in_default.not-Members
