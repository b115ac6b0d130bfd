use Rattle.std.proofs.Common.{not, ap, ◌∙◌, rules, tests}
use Rattle.std.proofs.lemmas.Iterator.{YieldsList-from_slice}
use Rattle.std.proofs.lemmas.Iterator.Search.{position_from_yields_List}
use Rattle.js_doc.specs.JsonView.{view}
use Rattle.js_keywords.specs.Failing.{passes, failing}
use Rattle.js_keywords.proofs.ShapesLemmas.{position-failing}
use Rattle.js_keywords.proofs.elements.ElementTest.first_failing.Goals as goal

pub returns : goal.returns
returns c =
    let test = passes c.args.self in
    position_from_yields_List (λ v. not (test (view v))) _ _ c.position.result c.position.ensures.ran
    (YieldsList-from_slice _ c.iter.ensures.rest) (λ x b q k. search (rules, tests))
    ∙ position-failing test view c.as_slice.result.now ∙ ap (failing test 0) c.as_slice.ensures.view
