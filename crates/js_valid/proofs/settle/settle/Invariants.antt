use Rattle.js_doc.specs.View.{view}
use Rattle.js_schema.specs.SchemaView.{schema_view}
use Rattle.js_valid.proofs.AskedLaws.{Taken}
use Rattle.js_valid.proofs.settle.settle.Given as goal

abbrev pub invariant-loop-left : goal.invariant-loop-left
invariant-loop-left l = Taken (schema_view l.schema) (view l.doc) l.asked l.left l.held.items

abbrev pub decreases-loop-left : goal.decreases-loop-left
decreases-loop-left l = l.left
