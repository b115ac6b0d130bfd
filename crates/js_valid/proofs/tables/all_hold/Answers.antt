use Rattle.std.proofs.Common.{◌∙◌, rules, tests}
use Rattle.std.proofs.lemmas.Iterator.{YieldsList-from_slice}
use Rattle.std.proofs.lemmas.Iterator.Search.{all_from_yields_List}
use Rattle.js_valid.specs.Parts.{flag}
use Rattle.js_valid.proofs.TestLaws.{all-every}
use Rattle.js_valid.proofs.tables.all_hold.Goals as goal

pub returns : goal.returns
returns c =
    all_from_yields_List (flag c.args.table.now) _ _ c.all.result c.all.ensures.ran
    (YieldsList-from_slice _ c.iter.ensures.rest) (λ x b q k. search (rules, tests))
    ∙ all-every (flag c.args.table.now) c.args.entries.now
