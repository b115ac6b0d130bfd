use Rattle.std.proofs.Common.{chars, sym, ap, ◌∙◌}
use Rattle.js_doc.proofs.Lookups.{same_word-named}
use Rattle.js_keywords.proofs.WordsLemmas.{chars-keyword_name}
use Rattle.js_keywords.proofs.keyword.is_name.Goals as goal

pub returns : goal.returns
returns c =
    let spelled = ap chars c.name.ensures ∙ chars-keyword_name c.args.keyword in
    sym (same_word-named _ _ _ _ c.utf8.text c.name.utf8 spelled c.eq.ensures)
