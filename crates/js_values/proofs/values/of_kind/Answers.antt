use Rattle.std.proofs.Common.{◌∷◌, [], map, ap, ◌∙◌}
use Rattle.std.proofs.lemmas.Result.{IfOk-equal}
use Rattle.positions.specs.Position.{All, Types}
use Rattle.normal_forms.specs.Nodes.{node, both}
use Rattle.js_algebra.specs.View.{node_view, kind_view, places}
use Rattle.js_values.specs.Runs.{run}
use Rattle.js_values.proofs.RunLemmas.{run-two, above-made}
use Rattle.js_values.proofs.values.of_kind.Goals as goal

pub returns : goal.returns
returns c =
    let f = node (Types (kind_view c.args.kind ∷ [])) in
    let g = node (node_view c.args.node) in
    let s = c.take_named-outer.new.self in
    let u = c.push-2.new.self in
    let first = c.in_ok-push.ensures
    ∙ ap (λ ks. run (node (Types (map kind_view ks))) s) c.in_ok-kinds.ensures in
    IfOk-equal c.push-3.result _ _ _ c.push-3.ensures
    (ap (λ ps. run (node (All (places ps))) c.swap_named-below.new.self) c.from_vec.ensures
    ∙ above-made All (both f g) c.args.sink.now s u c.swap_named-below.new.self _ _
    c.take_named-outer.ensures.named c.take_named-outer.ensures.rest
    (run-two f g s c.push.new.self u first c.in_ok-push-2.ensures)
    c.swap_named-below.ensures.named c.swap_named-below.ensures.rest)
