use Rattle.std.proofs.Common.{ap, ◌∙◌}
use Rattle.std.proofs.lemmas.Result.{IfOk-equal}
use Rattle.positions.specs.Position.{Has}
use Rattle.normal_forms.specs.Nodes.{node, both}
use Rattle.normal_forms.specs.KeywordNodes.{depends_of, need_node}
use Rattle.js_algebra.specs.View.{places}
use Rattle.js_schema.specs.View.{needs_view}
use Rattle.js_values.specs.Runs.{run}
use Rattle.js_values.proofs.RunLemmas.{run-two, above-made}
use Rattle.js_normal.proofs.keywords.dependency_node.Goals as goal

pub returns : goal.returns
returns c =
    let f = node (Has c.args.dependency.now.key) in
    let g = need_node (needs_view c.args.dependency.now.needs) in
    let s0 = c.take_named-outer.new.self in
    let s2 = c.need_node.new.sink in
    let first = c.in_ok-push.ensures ∙ ap (λ w. run (node (Has w)) s0) c.in_ok-copy.ensures in
    IfOk-equal c.push-2.result _ _ _ c.push-2.ensures
    (ap (λ P. run (node P) c.swap_named-below.new.self)
    (c.depends_of.ensures ∙ ap (λ ps. depends_of (places ps)) c.as_slice.ensures.value)
    ∙ above-made depends_of (both f g) c.args.sink.now s0 s2 c.swap_named-below.new.self _ _
    c.take_named-outer.ensures.named c.take_named-outer.ensures.rest
    (run-two f g s0 c.push.new.self s2 first c.in_ok-need_node.ensures)
    c.swap_named-below.ensures.named c.swap_named-below.ensures.rest)
