use Rattle.js_doc.specs.JsonView.{view}
use Rattle.js_doc.proofs.JsonWellFormed.{is_json-view}
use Rattle.js_schema.specs.SchemaView.{schema_view}
use Rattle.std.proofs.lemmas.Result.{IfOk-weaker}
use Rattle.js_input.proofs.InputLemmas.{ValueSays-entries}
use Rattle.js_input.proofs.schema.read_schema_value.Goals as goal

pub returns-in-Ok : goal.returns-in-Ok
returns-in-Ok c =
    IfOk-weaker c.guarded.result _ _ (λ input says.
    ValueSays-entries (view c.args.json.now) (schema_view c.in-Ok.schema) input
    (is_json-view c.args.json.now) c.in-Ok.ensures says) c.guarded.ensures
