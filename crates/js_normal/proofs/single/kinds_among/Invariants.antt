use Rattle.std.proofs.Common.{◌≡◌, ◌++◌, map, drop, filter}
use Rattle.documents.specs.Tests.{some}
use Rattle.documents.specs.Kind.{same_kind}
use Rattle.draft06.specs.EntryValidity.{kind_named}
use Rattle.js_algebra.specs.View.{kind_view}
use Rattle.js_keywords.specs.TypeView.{type_view}
use Rattle.js_normal.proofs.single.kinds_among.Given as goal

abbrev pub invariant-loop-kind : goal.invariant-loop-kind
invariant-loop-kind l =
    map kind_view l.named.items
    ++ filter (λ k. some (λ t. same_kind k (kind_named t)) (map type_view l.types))
    (map kind_view (drop l.kind-index l.kinds))
    ≡ filter (λ k. some (λ t. same_kind k (kind_named t)) (map type_view l.types)) (map kind_view l.kinds)
