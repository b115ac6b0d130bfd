use Rattle.js_walk.specs.FileView.{root_of}
use Rattle.js_walk.proofs.visit.check_one.Goals as goal

pub returns : goal.returns
returns c = c.check_member.ensures (root_of c.args.file.now)
