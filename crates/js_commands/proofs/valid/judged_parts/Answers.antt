use Rattle.std.proofs.Common.{◌-◌, ap, sym, ◌∙◌}
use Rattle.shared_documents.specs.Unshared.{unshared}
use Rattle.draft06.specs.Validity.{valid}
use Rattle.js_keywords.specs.Reading.{rules}
use Rattle.js_guard.specs.RankedView.{entries_of}
use Rattle.js_commands.specs.ValidOutcome.{of_test}
use Rattle.js_commands.proofs.ValidEntriesLemmas.{entries-valid}
use Rattle.js_commands.proofs.valid.judged_parts.Goals as goal

pub returns-in-Ok-true : goal.returns-in-Ok-true
returns-in-Ok-true c = λ j w e.
    let s = c.args.schema.now in
    let d = unshared c.args.parts.now (c.len.result - 1) in
    ap of_test (sym c.in-Ok-true.field-0-test ∙ c.in-Ok-true.ensures ∙ entries-valid j (entries_of s) s.ranks d w e s.falls)
    ∙ ap (λ n. of_test (valid rules j (unshared c.args.parts.now (n - 1)))) c.len.ensures.value

pub returns-in-Ok-false : goal.returns-in-Ok-false
returns-in-Ok-false c = λ j w e.
    let s = c.args.schema.now in
    let d = unshared c.args.parts.now (c.len.result - 1) in
    ap of_test
    (sym c.in-Ok-false.field-0-test ∙ c.in-Ok-false.ensures ∙ entries-valid j (entries_of s) s.ranks d w e s.falls)
    ∙ ap (λ n. of_test (valid rules j (unshared c.args.parts.now (n - 1)))) c.len.ensures.value
