use Rattle.std.proofs.Common.{map, rules, tests, ap, ◌∙◌}
use Rattle.std.proofs.lemmas.Iterator.{YieldsList-from_slice}
use Rattle.std.proofs.lemmas.Iterator.Search.{any_from_yields_List}
use Rattle.documents.specs.Tests.{some}
use Rattle.documents.specs.Kind.{same_kind}
use Rattle.schemas.specs.Entry.{TypeName}
use Rattle.draft06.specs.EntryValidity.{kind_named}
use Rattle.list_laws.proofs.Tests.{list_any-some}
use Rattle.js_algebra.specs.View.{kind_view}
use Rattle.js_keywords.specs.TypeView.{type_view}
use Rattle.js_normal.proofs.single.is_named.Goals as goal

pub returns : goal.returns
returns c =
    let test = λ (t : TypeName). same_kind (kind_view c.args.kind) (kind_named t) in
    any_from_yields_List (λ n. test (type_view n)) _ _ c.any.result c.any.ensures.ran
    (YieldsList-from_slice _ c.iter.ensures.rest) (λ n b q h. search (rules, tests))
    ∙ list_any-some test type_view c.as_slice.result.now
    ∙ ap (λ ts. some test (map type_view ts)) c.as_slice.ensures
