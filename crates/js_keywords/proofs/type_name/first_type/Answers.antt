use Rattle.std.proofs.Common.{chars, rules, tests, sym, ◌∙◌}
use Rattle.std.proofs.lemmas.Iterator.{YieldsList-from_slice}
use Rattle.std.proofs.lemmas.Iterator.Adapters.{option_map_id}
use Rattle.std.proofs.lemmas.Iterator.Consumers.{YieldsList-from_copied}
use Rattle.std.proofs.lemmas.Iterator.Search.{find_from_yields_List}
use Rattle.documents.specs.Tests.{same_word}
use Rattle.js_keywords.specs.Words.{type_word}
use Rattle.js_keywords.proofs.WordsLemmas.{find-type_from}
use Rattle.js_keywords.proofs.type_name.first_type.Goals as goal

pub returns : goal.returns
returns c =
    let w = chars c.args.word.now in
    sym (option_map_id c.find.result)
    ∙ find_from_yields_List (λ k. same_word w (type_word k)) _ _ c.find.result c.find.ensures.ran
    (YieldsList-from_copied (YieldsList-from_slice c.args.types.now (search rules)))
    (λ k b q h. search (rules, tests))
    ∙ find-type_from c.args.types.now w
