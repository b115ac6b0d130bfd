use Rattle.std.proofs.Common.{◌∙◌}
use Rattle.js_cells.proofs.walk.class_at.Goals as goal

pub returns-in-Some : goal.returns-in-Some
returns-in-Some c =
    let (is, at, within, has, more) = c.in-Some.ensures.lookup in has.1 0 ∙ c.requires c.args.c has.0
