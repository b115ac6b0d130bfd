use Rattle.std.proofs.Common.{refl}
use Rattle.js_gen.proofs.Listed.{none_yet, one_more, made_of}
use Rattle.js_gen.proofs.parts.pair_schema.Goals as goal

pub returns : goal.returns
returns c =
    let empty = none_yet _ c.new-properties.ensures in
    let first = one_more _ _ _ _ _ _ empty c.in_ok-set-3.ensures refl in
    let both = one_more _ _ _ _ _ _ first c.in_ok-set-4.ensures refl in
    let none = none_yet _ c.new-schema.ensures in
    let one = one_more _ _ _ _ _ _ none c.in_ok-set.ensures c.in_ok-text.ensures in
    let two = one_more _ _ _ _ _ _ one c.in_ok-set-2.ensures c.in_ok-two_texts.ensures in
    let three = one_more _ _ _ _ _ _ two c.in_ok-set-5.ensures (made_of _ _ _ both c.into_json.ensures) in
    made_of _ _ _ three c.into_json-2.ensures
