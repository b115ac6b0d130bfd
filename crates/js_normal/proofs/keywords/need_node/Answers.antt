use Rattle.std.proofs.Common.{ap, sym}
use Rattle.std.proofs.lemmas.Result.{IfOk-equal}
use Rattle.normal_forms.specs.KeywordNodes.{need_node}
use Rattle.js_schema.specs.View.{needs_view}
use Rattle.js_values.specs.Runs.{run}
use Rattle.js_normal.proofs.keywords.need_node.Goals as goal

pub returns-in-Whole : goal.returns-in-Whole
returns-in-Whole c =
    IfOk-equal c.name.result _ _ _ c.name.ensures
    (ap (λ n. run (need_node (needs_view n)) c.args.sink.now) (sym c.in-Whole.is))
