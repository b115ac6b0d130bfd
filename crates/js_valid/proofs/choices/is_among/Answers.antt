use Rattle.std.proofs.Common.{sym, rules}
use Rattle.std.proofs.lemmas.Fn.{always_returns_same}
use Rattle.js_doc.specs.View.{view}
use Rattle.js_valid.proofs.ChoicesLaws.{against, found_among, absent_among}
use Rattle.js_valid.proofs.choices.is_among.Goals as goal

pub returns-in-Ok : goal.returns-in-Ok
returns-in-Ok c =
    let values = c.args.values.now in
    let J = view c.args.doc.now in
    sym (found_among J values c.in-Ok.field-0 c.in-Ok.ensures.bound
    (c.in-Ok.ensures.position (against J) (always_returns_same _ _ _ (λ a r q k. search rules))))

pub returns-in-Err : goal.returns-in-Err
returns-in-Err c =
    let values = c.args.values.now in
    let J = view c.args.doc.now in
    sym (absent_among J values c.in-Err.field-0 c.requires
    (c.in-Err.ensures.position (against J) (always_returns_same _ _ _ (λ a r q k. search rules))))
