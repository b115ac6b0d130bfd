use Rattle.std.proofs.Common.{sym, subst, ◌∙◌}
use Rattle.draft06.specs.EntryValidity.{form_at}
use Rattle.js_valid.specs.Choices.{AreChoices}
use Rattle.js_valid.specs.Plan.{table_of}
use Rattle.js_valid.proofs.ChoicesLaws.{choices_at-get}
use Rattle.js_valid.proofs.validator.Validator.choices.Goals as goal

pub returns : goal.returns
returns c =
    let (within, are) = c.requires.plan.choices c.args.entry c.requires.entry in
    let here = choices_at-get c.args.self.now.plan.now.choices.items c.args.entry c.index.result.now within
    c.index.ensures in
    subst (AreChoices (form_at (table_of c.args.self.now) c.args.entry)) (here ∙ sym c.as_slice.ensures.value) are
