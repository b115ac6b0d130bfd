use Rattle.std.proofs.Common.{sym, ◌∙◌}
use Rattle.normal_forms.specs.Values.{value_node}
use Rattle.normal_forms.specs.KeywordNodes.{is_container}
use Rattle.js_doc.specs.View.{view}
use Rattle.js_values.proofs.RunLemmas.{run-skip}
use Rattle.js_values.proofs.groups.container.Goals as goal

pub returns-else-is_container : goal.returns-else-is_container
returns-else-is_container c =
    run-skip (is_container (view c.args.doc.now)) (value_node (view c.args.doc.now))
    c.args.sink.now (sym c.is_container.ensures ∙ c.if-is_container.false)
