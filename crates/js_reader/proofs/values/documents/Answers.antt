use Rattle.js_doc.specs.JsonView.{view}
use Rattle.js_reader.proofs.ValuesLemmas.{elements-listed}
use Rattle.js_reader.proofs.values.documents.Goals as goal

pub returns-in-List : goal.returns-in-List
returns-in-List c =
    elements-listed c.in_ok-list.field-0 c.in-List.list (view c.args.value.now) c.in-List.is c.in_ok-list.ensures
