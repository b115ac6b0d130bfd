use Rattle.std.proofs.Common.{ap, ◌∙◌}
use Rattle.documents.specs.Json as D
use Rattle.js_gen.proofs.AsciiTexts.{chars-ascii}
use Rattle.js_gen.proofs.Views.{view-Text}
use Rattle.js_gen.proofs.words.text.Goals as goal

pub returns : goal.returns
returns c =
    let same = chars-ascii c.args.text.now c.requires in
    view-Text c.new.result ∙ ap D.string (c.new.ensures ∙ c.in_ok-from_text.ensures ∙ same)
