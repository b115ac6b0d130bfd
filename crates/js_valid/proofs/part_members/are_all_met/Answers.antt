use Rattle.std.proofs.Common.{Bool, List, ◌∙◌, rules, tests}
use Rattle.std.proofs.lemmas.Iterator.{YieldsList-from_slice}
use Rattle.std.proofs.lemmas.Iterator.Search.{all_from_yields_List}
use Rattle.shared_documents.specs.Unshared.{unshared}
use Rattle.js_valid.specs.Parts.{flag}
use Rattle.js_valid.specs.PartTables.{table_at}
use Rattle.js_valid.specs.Plan.{valid_at}
use Rattle.js_valid.proofs.TestLaws.{all-every, every-alike}
use Rattle.js_valid.proofs.part_members.are_all_met.Goals as goal

pub returns : goal.returns
returns c es ps known =
    let table : List Bool = table_at c.args.tables.now c.args.id.0 in
    all_from_yields_List (flag table) _ _ c.all.result c.all.ensures.ran (YieldsList-from_slice _ c.iter.ensures.rest)
    (λ x b q k. search (rules, tests))
    ∙ all-every (flag table) c.args.entries.now
    ∙ every-alike (flag table) (λ q. valid_at es q (unshared ps c.args.id.0)) c.args.entries.now
    (λ q. known c.args.id.0 q c.requires)
