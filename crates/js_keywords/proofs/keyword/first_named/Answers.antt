use Rattle.std.proofs.Common.{chars, rules, tests, sym, ◌∙◌}
use Rattle.std.proofs.lemmas.Iterator.{YieldsList-from_slice}
use Rattle.std.proofs.lemmas.Iterator.Adapters.{option_map_id}
use Rattle.std.proofs.lemmas.Iterator.Consumers.{YieldsList-from_copied}
use Rattle.std.proofs.lemmas.Iterator.Search.{find_from_yields_List}
use Rattle.documents.specs.Tests.{same_word}
use Rattle.js_keywords.specs.Names.{keyword_name}
use Rattle.js_keywords.proofs.WordsLemmas.{find-keyword_in}
use Rattle.js_keywords.proofs.keyword.first_named.Goals as goal

pub returns : goal.returns
returns c =
    let w = chars c.args.name.now in
    sym (option_map_id c.find.result)
    ∙ find_from_yields_List (λ k. same_word w (keyword_name k)) _ _ c.find.result c.find.ensures.ran
    (YieldsList-from_copied (YieldsList-from_slice c.args.keywords.now (search rules)))
    (λ k b q h. search (rules, tests))
    ∙ find-keyword_in c.args.keywords.now w
