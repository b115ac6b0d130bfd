use Rattle.std.proofs.Common.{◌++◌, codes, chars, refl, ap, ◌∙◌}
use Rattle.documents.specs.Json as D
use Rattle.js_gen.proofs.AsciiTexts.{chars-behind}
use Rattle.js_gen.proofs.Views.{view-Text}
use Rattle.js_gen.proofs.words.definition_path.Goals as goal

pub returns : goal.returns
returns c =
    let name = c.as_text.result.now in
    let written = c.in_ok-push_str.ensures.bytes ∙ ap (λ bs. bs ++ name) c.in_ok-path.ensures.ok in
    view-Text c.new.result
    ∙ ap D.string (c.new.ensures ∙ c.from_string.ensures ∙ ap chars written
    ∙ chars-behind (codes "#/definitions/") name refl ∙ ap (λ cs. codes "#/definitions/" ++ cs) c.as_text.ensures.text)
