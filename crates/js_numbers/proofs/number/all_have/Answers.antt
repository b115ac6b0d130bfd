use Rattle.std.proofs.Common.{rules, tests, sym, ◌∙◌}
use Rattle.std.proofs.lemmas.Iterator.{YieldsList-from_slice}
use Rattle.std.proofs.lemmas.Iterator.Search.{all_from_yields_List}
use Rattle.std.proofs.lemmas.List.Folds.{list_all-map}
use Rattle.js_doc.specs.Numbers.{has}
use Rattle.js_numbers.proofs.number.all_have.Goals as goal

pub returns : goal.returns
returns c =
    all_from_yields_List (λ s. has s.now c.args.x) _ _ c.all.result c.all.ensures.ran
    (YieldsList-from_slice _ c.iter.ensures.rest) (λ s b q k. search (rules, tests))
    ∙ sym (list_all-map (λ s. has s c.args.x) (λ s. s.now) c.args.sets.now)
