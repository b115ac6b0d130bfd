use Rattle.std.proofs.Common.{◌∙◌, rules, tests}
use Rattle.std.proofs.lemmas.Iterator.{YieldsList-from_slice}
use Rattle.std.proofs.lemmas.Iterator.Search.{any_from_yields_List}
use Rattle.js_valid.specs.Parts.{flag}
use Rattle.js_valid.proofs.TestLaws.{any-some}
use Rattle.js_valid.proofs.tables.one_holds.Goals as goal

pub returns : goal.returns
returns c =
    any_from_yields_List (flag c.args.table.now) _ _ c.any.result c.any.ensures.ran
    (YieldsList-from_slice _ c.iter.ensures.rest) (λ x b q k. search (rules, tests))
    ∙ any-some (flag c.args.table.now) c.args.entries.now
