use Rattle.std.proofs.Common.{◌∙◌, rules}
use Rattle.documents.specs.Document.{elements}
use Rattle.js_doc.specs.View.{view, list_view}
use Rattle.js_valid.proofs.ChoicesLaws.{listed_among}
use Rattle.js_valid.proofs.own.is_listed.Goals as goal

pub returns-else-is_none : goal.returns-else-is_none
returns-else-is_none c =
    c.is_among.ensures
    ∙ listed_among (λ ds. elements (list_view ds)) c.args.keywords.now.any.value.enumeration c.args.choices.now
    (view c.args.doc.now) c.requires (search rules)
