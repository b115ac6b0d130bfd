use Rattle.std.proofs.Common.{ap, ◌∙◌}
use Rattle.js_doc.specs.JsonView.{view}
use Rattle.js_walk.specs.FileView.{root_of}
use Rattle.js_reader.proofs.FormsLemmas.{view-Text, reference_form-leads}
use Rattle.js_reader.proofs.forms.FormReader.reference_form.Goals as goal

pub returns-in-Text : goal.returns-in-Text
returns-in-Text c =
    reference_form-leads (root_of c.args.self.now.file.now) c.args.self.now.numbers.now (view c.args.value.now)
    c.in-Text.field-0.text c.args.target c.number.result (ap view c.in-Text.is ∙ view-Text c.in-Text.field-0)
    c.requires c.number.ensures
