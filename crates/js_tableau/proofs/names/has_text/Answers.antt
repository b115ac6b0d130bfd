use Rattle.std.proofs.Common.{map, rules, tests, ap, ◌∙◌}
use Rattle.documents.specs.Tests.{some}
use Rattle.documents.specs.Kind.{Text, same_kind}
use Rattle.list_laws.proofs.Tests.{list_any-some, list_any-alike}
use Rattle.js_algebra.specs.View.{kind_view}
use Rattle.js_tableau.proofs.names.has_text.Goals as goal

pub returns : goal.returns
returns c =
    let kinds = c.as_slice.result.now in
    c.contains.ensures.value
    ∙ list_any-alike _ (λ k. same_kind Text (kind_view k)) kinds (λ k. search (rules, tests))
    ∙ list_any-some (same_kind Text) kind_view kinds
    ∙ ap (λ ks. some (same_kind Text) (map kind_view ks)) c.as_slice.ensures
