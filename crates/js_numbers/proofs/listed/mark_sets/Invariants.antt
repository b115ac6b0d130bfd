use Rattle.std.proofs.Common.{take}
use Rattle.js_numbers.specs.declared.candidates.TheConstants.{MOST_STRUCK}
use Rattle.std.specs.List.{list_any}
use Rattle.js_doc.specs.Numbers.{has}
use Rattle.js_numbers.specs.Marking.{AddsListed}
use Rattle.js_numbers.proofs.listed.mark_sets.Given as goal

abbrev pub invariant-loop-set : goal.invariant-loop-set
invariant-loop-set l =
    AddsListed MOST_STRUCK l.start l.values (λ y. list_any (λ s. has s.now y) (take l.set-index l.sets))
    l.fn.listed l.listed
