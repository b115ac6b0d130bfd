use Rattle.std.proofs.Common.{take}
use Rattle.js_numbers.specs.declared.candidates.TheConstants.{MOST_STRUCK}
use Rattle.js_doc.specs.Numbers.{has}
use Rattle.js_numbers.specs.Marking.{AddsListed}
use Rattle.js_numbers.proofs.listed.mark_members.Given as goal

abbrev pub invariant-loop-x : goal.invariant-loop-x
invariant-loop-x l = AddsListed MOST_STRUCK l.start l.values (has (take l.x-index l.set)) l.fn.listed l.listed
