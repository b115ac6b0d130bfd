use Rattle.std.proofs.Common.{false}
use Rattle.js_gen.proofs.Listed.{none_yet, one_more, made_of}
use Rattle.js_gen.proofs.Views.{view-Bool}
use Rattle.js_gen.proofs.wide.loose.Goals as goal

pub returns : goal.returns
returns c =
    let none = none_yet _ c.new-schema.ensures in
    let one = one_more _ _ _ _ _ _ none c.in_ok-set.ensures c.in_ok-text.ensures in
    let two = one_more _ _ _ _ _ _ one c.in_ok-set-2.ensures c.in_ok-numbers_from_zero.ensures in
    let three = one_more _ _ _ _ _ _ two c.in_ok-set-3.ensures (view-Bool false) in
    made_of _ _ _ three c.into_json.ensures
