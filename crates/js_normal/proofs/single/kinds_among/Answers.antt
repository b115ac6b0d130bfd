use Rattle.std.proofs.Common.{◌<◌, map, length, arith}
use Rattle.documents.specs.Tests.{some}
use Rattle.documents.specs.Kind.{same_kind}
use Rattle.draft06.specs.EntryValidity.{kind_named}
use Rattle.js_algebra.specs.View.{kind_view}
use Rattle.js_keywords.specs.TypeView.{type_view}
use Rattle.js_values.proofs.GroupLemmas.{filter-step}
use Rattle.js_normal.proofs.single.kinds_among.Goals as goal

pub loop-kind-preserved : goal.loop-kind-preserved
loop-kind-preserved c =
    let within : c.loop-kind.kind-index < length c.args.kinds.now = omega arith in
    filter-step (λ k. some (λ t. same_kind k (kind_named t)) (map type_view c.args.types.now)) kind_view
    c.args.kinds.now c.loop-kind.kind-index _ (map kind_view c.loop-kind.named.items)
    (map kind_view c.add_kind.new.kinds.items) _ within c.in_ok-add_kind.ensures c.loop-kind.invariant
