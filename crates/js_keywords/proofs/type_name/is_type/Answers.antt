use Rattle.std.proofs.Common.{chars, sym, ap, ◌∙◌}
use Rattle.js_doc.proofs.Lookups.{same_word-named}
use Rattle.js_keywords.proofs.WordsLemmas.{chars-type_word}
use Rattle.js_keywords.proofs.type_name.is_type.Goals as goal

pub returns : goal.returns
returns c =
    let spelled = ap chars c.word.ensures ∙ chars-type_word c.args.name in
    sym (same_word-named _ _ _ _ c.utf8.text c.word.utf8 spelled c.eq.ensures)
