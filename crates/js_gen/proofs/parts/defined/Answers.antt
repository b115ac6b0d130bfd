use Rattle.std.proofs.Common.{◌++◌, codes, refl, ap, ◌∙◌}
use Rattle.documents.specs.Json as D
use Rattle.js_gen.proofs.Listed.{none_yet, one_more, made_of}
use Rattle.js_gen.proofs.parts.defined.Goals as goal

pub returns : goal.returns
returns c =
    let path = c.in_ok-definition_path.ensures
    ∙ ap (λ name. D.string (codes "#/definitions/" ++ name)) c.in_ok-numbered.ensures in
    let none = none_yet _ c.new-schema.ensures in
    let one = one_more _ _ _ _ _ _ none c.in_ok-set.ensures path in
    let two = one_more _ _ _ _ _ _ one c.in_ok-set-2.ensures refl in
    made_of _ _ _ two c.into_json.ensures
