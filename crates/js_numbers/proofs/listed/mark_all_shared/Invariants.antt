use Rattle.std.proofs.Common.{take, ◌&&◌}
use Rattle.std.specs.List.{list_any}
use Rattle.std.specs.Ordering.{int_eq}
use Rattle.js_numbers.specs.declared.candidates.TheConstants.{MOST_STRUCK}
use Rattle.js_doc.specs.Numbers.{has}
use Rattle.js_numbers.specs.Marking.{AddsListed}
use Rattle.js_numbers.proofs.listed.mark_all_shared.Given as goal

abbrev pub invariant-loop-x : goal.invariant-loop-x
invariant-loop-x l =
    AddsListed MOST_STRUCK l.start l.values (λ y. list_any (λ x. int_eq x y && has l.set x) (take l.x-index l.values))
    l.fn.listed l.listed
