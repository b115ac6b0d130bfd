use Rattle.std.proofs.Common.{map, rules, tests, ap, sym, ◌∙◌}
use Rattle.std.proofs.lemmas.Iterator.{YieldsList-from_slice}
use Rattle.std.proofs.lemmas.Iterator.Search.{any_from_yields_List}
use Rattle.documents.specs.Tests.{some}
use Rattle.normal_forms.specs.KeywordNodes.{is_null}
use Rattle.list_laws.proofs.Tests.{list_any-some}
use Rattle.js_doc.specs.View.{view, list_view}
use Rattle.js_doc.proofs.Levels.{elements-of}
use Rattle.js_values.proofs.groups.has_null.Goals as goal

pub returns : goal.returns
returns c =
    let docs = c.as_slice.result.now in
    any_from_yields_List (λ d. is_null (view d)) _ _ c.any.result c.any.ensures.ran
    (YieldsList-from_slice _ c.iter.ensures.rest) (λ d b q h. search (rules, tests))
    ∙ list_any-some is_null view docs
    ∙ ap (some is_null) (sym (elements-of (map view docs) (list_view c.args.values.now) c.as_slice.ensures.view))
