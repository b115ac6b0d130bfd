use Rattle.std.proofs.Common.{ap, ◌∙◌}
use Rattle.std.proofs.lemmas.Result.{IfOk-equal}
use Rattle.positions.specs.Position.{Items, True}
use Rattle.normal_forms.specs.Nodes.{node, the_one}
use Rattle.js_algebra.specs.View.{places}
use Rattle.js_values.specs.Runs.{run}
use Rattle.js_values.proofs.RunLemmas.{above-made}
use Rattle.js_normal.proofs.keywords.free_items.Goals as goal

pub returns : goal.returns
returns c =
    let es = places c.args.prefix in
    IfOk-equal c.push-2.result _ _ _ c.push-2.ensures
    (ap (λ q. run (node (Items es q)) c.swap_named-below.new.self)
    (c.the_one.ensures ∙ ap (λ ps. the_one (places ps)) c.as_slice.ensures.value)
    ∙ above-made (λ qs. Items es (the_one qs)) (node True) c.args.sink.now c.take_named-outer.new.self c.push.new.self
    c.swap_named-below.new.self _ _ c.take_named-outer.ensures.named c.take_named-outer.ensures.rest
    c.in_ok-push.ensures c.swap_named-below.ensures.named c.swap_named-below.ensures.rest)
