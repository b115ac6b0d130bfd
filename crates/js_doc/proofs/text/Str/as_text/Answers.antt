use Rattle.std.proofs.Common.{chars, encode_utf8_all, sym, ap, ◌∙◌}
use Rattle.std.proofs.lemmas.Str.{encodes-chars}
use Rattle.js_doc.proofs.text.Str.as_text.Goals as goal

pub returns-clause-bytes : goal.returns-clause-bytes
returns-clause-bytes c =
    sym (encodes-chars _ c.as_str.utf8) ∙ ap encode_utf8_all (ap chars c.as_str.ensures.value ∙ c.self.view_is)
