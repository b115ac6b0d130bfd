use Rattle.std.proofs.Common.{rules, tests, ◌∙◌}
use Rattle.documents.specs.Kind.{same_kind}
use Rattle.list_laws.proofs.Tests.{list_any-some, list_any-alike}
use Rattle.js_algebra.specs.View.{kind_view}
use Rattle.js_algebra.proofs.rules.has_kind.Goals as goal

pub returns : goal.returns
returns c =
    let kind = kind_view c.args.kind in
    c.contains.ensures.value
    ∙ list_any-alike _ (λ k. same_kind kind (kind_view k)) c.args.kinds.now (λ k. search (rules, tests))
    ∙ list_any-some (same_kind kind) kind_view c.args.kinds.now
