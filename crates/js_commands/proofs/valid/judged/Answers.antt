use Rattle.std.proofs.Common.{ap, sym, ◌∙◌}
use Rattle.js_doc.specs.View.{view}
use Rattle.js_guard.specs.RankedView.{entries_of}
use Rattle.js_commands.specs.ValidOutcome.{of_test}
use Rattle.js_commands.proofs.ValidEntriesLemmas.{entries-valid}
use Rattle.js_commands.proofs.valid.judged.Goals as goal

pub returns-in-Ok-true : goal.returns-in-Ok-true
returns-in-Ok-true c = λ j w e.
    let s = c.args.schema.now in
    ap of_test (sym c.in-Ok-true.field-0-test ∙ c.in-Ok-true.ensures
    ∙ entries-valid j (entries_of s) s.ranks (view c.args.doc.now) w e s.falls)

pub returns-in-Ok-false : goal.returns-in-Ok-false
returns-in-Ok-false c = λ j w e.
    let s = c.args.schema.now in
    ap of_test (sym c.in-Ok-false.field-0-test ∙ c.in-Ok-false.ensures
    ∙ entries-valid j (entries_of s) s.ranks (view c.args.doc.now) w e s.falls)
