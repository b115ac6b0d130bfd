use Rattle.std.proofs.Common.{map, ap, ◌∙◌, rules, tests}
use Rattle.std.proofs.lemmas.Iterator.{YieldsList-from_slice}
use Rattle.std.proofs.lemmas.Iterator.Search.{any_from_yields_List}
use Rattle.documents.specs.Tests.{some}
use Rattle.draft06.specs.EntryValidity.{has_type}
use Rattle.js_doc.specs.View.{view}
use Rattle.js_keywords.specs.TypeView.{type_view}
use Rattle.js_valid.proofs.TestLaws.{any-map}
use Rattle.js_valid.proofs.own.has_one_type.Goals as goal

pub returns : goal.returns
returns c =
    any_from_yields_List (λ n. has_type (view c.args.doc.now) (type_view n)) _ _ c.any.result c.any.ensures.ran
    (YieldsList-from_slice _ c.iter.ensures.rest) (λ x b q k. search (rules, tests))
    ∙ any-map type_view (has_type (view c.args.doc.now)) c.as_slice.result.now
    ∙ ap (λ ts. some (has_type (view c.args.doc.now)) (map type_view ts)) c.as_slice.ensures
