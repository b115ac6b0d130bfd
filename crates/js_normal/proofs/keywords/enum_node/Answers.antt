use Rattle.std.proofs.Common.{ap, ◌∙◌}
use Rattle.std.proofs.lemmas.Result.{IfOk-equal}
use Rattle.documents.specs.Document.{elements}
use Rattle.positions.specs.Position.{Any}
use Rattle.normal_forms.specs.Nodes.{node}
use Rattle.normal_forms.specs.KeywordNodes.{groups}
use Rattle.js_doc.specs.View.{list_view}
use Rattle.js_algebra.specs.View.{places}
use Rattle.js_values.specs.Runs.{run}
use Rattle.js_values.proofs.RunLemmas.{above-made}
use Rattle.js_normal.proofs.keywords.enum_node.Goals as goal

pub returns : goal.returns
returns c =
    IfOk-equal c.push.result _ _ _ c.push.ensures
    (ap (λ ps. run (node (Any (places ps))) c.swap_named-below.new.self) c.from_vec.ensures
    ∙ above-made Any (groups (elements (list_view c.args.values.now))) c.args.sink.now c.take_named-outer.new.self
    c.group_nodes.new.sink c.swap_named-below.new.self _ _ c.take_named-outer.ensures.named
    c.take_named-outer.ensures.rest c.in_ok-group_nodes.ensures c.swap_named-below.ensures.named
    c.swap_named-below.ensures.rest)
