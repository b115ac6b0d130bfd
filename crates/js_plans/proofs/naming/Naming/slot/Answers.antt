-- The cells are counted in whatever order.
use Rattle.std.proofs.Common.{length, reverse, ap, sym, ◌∙◌}
use Rattle.alternatives.specs.Alternative as A
use Rattle.frames.specs.Frame as F
use Rattle.js_plans.specs.Named.{naming_view}
use Rattle.js_plans.proofs.Namings.{times-reverse}
use Rattle.js_plans.proofs.naming.Naming.slot.Goals as goal

pub returns-in-ByName : goal.returns-in-ByName
returns-in-ByName c =
    ap (A.Name c.args.cell) (c.count.ensures.value ∙ sym (times-reverse c.args.cell c.args.before.now))
    ∙ ap (λ n. (naming_view n).slot (length c.args.before.now) (reverse c.args.before.now) (F.In c.args.cell))
    (sym c.in-ByName.is)
