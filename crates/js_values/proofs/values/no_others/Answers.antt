use Rattle.std.proofs.Common.{[], map, ap, ap₂, ◌∙◌}
use Rattle.std.proofs.lemmas.Result.{IfOk-equal}
use Rattle.positions.specs.Position.{False, MembersOf, Others}
use Rattle.normal_forms.specs.Nodes.{node, the_one}
use Rattle.normal_forms.specs.Values.{names_of}
use Rattle.js_doc.specs.View.{map_view}
use Rattle.js_algebra.specs.View.{pattern_view, places}
use Rattle.js_values.specs.Runs.{run}
use Rattle.js_values.proofs.RunLemmas.{above-made}
use Rattle.js_values.proofs.values.no_others.Goals as goal

pub returns : goal.returns
returns c =
    let ks = names_of (map_view c.args.members.now) in
    let s = c.swap_named-below.new.self in
    IfOk-equal c.push-2.result _ _ _ c.push-2.ensures
    (ap (λ rs. run (node (MembersOf (Others c.in_ok-names.names (map pattern_view rs)) c.the_one.result.0)) s)
    (c.from_vec.ensures ∙ c.new.ensures.items)
    ∙ ap₂ (λ ws q. run (node (MembersOf (Others ws []) q)) s) c.in_ok-names.ensures
    (c.the_one.ensures ∙ ap (λ ps. the_one (places ps)) c.as_slice.ensures.value)
    ∙ above-made (λ qs. MembersOf (Others ks []) (the_one qs)) (node False) c.args.sink.now
    c.take_named-outer.new.self c.push.new.self s _ _ c.take_named-outer.ensures.named c.take_named-outer.ensures.rest
    c.in_ok-push.ensures c.swap_named-below.ensures.named c.swap_named-below.ensures.rest)
