use Rattle.std.proofs.Common.{option_map, sym, ap, ◌∙◌}
use Rattle.js_doc.specs.JsonView.{view, map_view}
use Rattle.js_walk.proofs.HoldingLemmas.{object_weight-capped}
use Rattle.js_walk.proofs.weight.object_weight.Goals as goal

pub returns-in-None : goal.returns-in-None
returns-in-None c =
    let none = sym c.value_of.ensures ∙ ap (option_map (λ j. view j.now)) c.in-None.is in
    object_weight-capped (map_view c.args.members.now) _ _ _ _ none c.has_list.ensures c.members_values.ensures
    c.saturating_mul.ensures c.saturating_add.ensures
