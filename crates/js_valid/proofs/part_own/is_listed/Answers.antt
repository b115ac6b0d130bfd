use Rattle.std.proofs.Common.{◌∙◌, rules}
use Rattle.documents.specs.Document.{elements}
use Rattle.shared_documents.specs.Unshared.{unshared}
use Rattle.js_doc.specs.View.{list_view}
use Rattle.js_valid.proofs.ChoicesLaws.{listed_among}
use Rattle.js_valid.proofs.part_own.is_listed.Goals as goal

pub returns-else-is_none : goal.returns-else-is_none
returns-else-is_none c =
    c.is_part_among.ensures
    ∙ listed_among (λ ds. elements (list_view ds)) c.args.keywords.now.any.value.enumeration c.args.choices.now
    (unshared c.args.parts.now c.args.id.0) c.requires.choices (search rules)
