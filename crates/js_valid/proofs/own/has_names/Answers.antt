use Rattle.std.proofs.Common.{ap, ◌∙◌, rules, tests}
use Rattle.std.proofs.lemmas.Iterator.{YieldsList-from_slice}
use Rattle.std.proofs.lemmas.Iterator.Search.{all_from_yields_List}
use Rattle.documents.specs.Tests.{every}
use Rattle.documents.specs.Document.{entries}
use Rattle.documents.specs.Measures.{has_name}
use Rattle.js_doc.specs.View.{map_view}
use Rattle.js_valid.proofs.TestLaws.{all-every}
use Rattle.js_valid.proofs.own.has_names.Goals as goal

pub returns : goal.returns
returns c =
    all_from_yields_List (λ w. has_name w (entries (map_view c.args.members.now))) _ _ c.all.result c.all.ensures.ran
    (YieldsList-from_slice _ c.iter.ensures.rest) (λ x b q k. search (rules, tests))
    ∙ all-every (λ w. has_name w (entries (map_view c.args.members.now))) c.as_slice.result.now
    ∙ ap (every (λ w. has_name w (entries (map_view c.args.members.now)))) c.as_slice.ensures
