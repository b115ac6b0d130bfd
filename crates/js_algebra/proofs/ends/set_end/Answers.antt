-- One end is set.
use Rattle.std.proofs.Common.{map, set, ap, ◌∙◌}
use Rattle.std.proofs.lemmas.List.{map-set}
use Rattle.js_algebra.specs.View.{signed_view}
use Rattle.js_algebra.proofs.ends.set_end.Goals as goal

pub returns : goal.returns
returns c =
    map-set signed_view c.args.ends.now c.args.x.pos.0 c.signed_by.result
    ∙ ap (set (map signed_view c.args.ends.now) c.args.x.pos.0) c.signed_by.ensures
