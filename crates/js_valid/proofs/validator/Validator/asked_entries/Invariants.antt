use Rattle.js_doc.specs.View.{view}
use Rattle.js_valid.proofs.AskedLaws.{Ahead, top}
use Rattle.js_valid.specs.Plan.{table_of}
use Rattle.js_valid.proofs.validator.Validator.asked_entries.Given as goal

abbrev pub invariant-asked : goal.invariant-asked
invariant-asked l = Ahead (table_of l.self) (view l.doc) l.self.plan.now l.entries l.pending l.asked

abbrev pub decreases-asked : goal.decreases-asked
decreases-asked l = top l.pending
