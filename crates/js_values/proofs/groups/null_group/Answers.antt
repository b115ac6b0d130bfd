use Rattle.std.proofs.Common.{sym, ◌∙◌, ◌∷◌, []}
use Rattle.documents.specs.Tests.{some}
use Rattle.documents.specs.Kind.{Null}
use Rattle.documents.specs.Document.{elements}
use Rattle.positions.specs.Position.{Types}
use Rattle.normal_forms.specs.Nodes.{node}
use Rattle.normal_forms.specs.KeywordNodes.{is_null}
use Rattle.js_doc.specs.View.{list_view}
use Rattle.js_values.proofs.RunLemmas.{run-skip}
use Rattle.js_values.proofs.groups.null_group.Goals as goal

pub returns-else-has_null : goal.returns-else-has_null
returns-else-has_null c =
    run-skip (some is_null (elements (list_view c.args.values.now))) (node (Types (Null ∷ [])))
    c.args.sink.now (sym c.has_null.ensures ∙ c.if-has_null.false)
