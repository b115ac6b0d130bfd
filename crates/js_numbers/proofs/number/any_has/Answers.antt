use Rattle.std.proofs.Common.{rules, tests, sym, ◌∙◌}
use Rattle.std.proofs.lemmas.Iterator.{YieldsList-from_slice}
use Rattle.std.proofs.lemmas.Iterator.Search.{any_from_yields_List}
use Rattle.js_doc.specs.Numbers.{has}
use Rattle.js_numbers.proofs.ListsBorrowed.{list_any-lists_of}
use Rattle.js_numbers.proofs.number.any_has.Goals as goal

pub returns : goal.returns
returns c =
    any_from_yields_List (λ s. has s.now c.args.x) _ _ c.any.result c.any.ensures.ran
    (YieldsList-from_slice _ c.iter.ensures.rest) (λ s b q k. search (rules, tests))
    ∙ sym (list_any-lists_of (λ s. has s c.args.x) c.args.sets.now)
