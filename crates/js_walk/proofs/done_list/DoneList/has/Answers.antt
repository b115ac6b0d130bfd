use Rattle.std.proofs.Common.{is_some, ap, ◌∙◌}
use Rattle.js_walk.proofs.DoneLemmas.{lookup-position}
use Rattle.js_walk.proofs.done_list.DoneList.has.Goals as goal

pub returns : goal.returns
returns c = c.is_some.ensures ∙ ap is_some c.number.ensures ∙ lookup-position c.args.pointer c.args.self.now
