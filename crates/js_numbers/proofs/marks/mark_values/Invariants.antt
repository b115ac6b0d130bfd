use Rattle.std.proofs.Common.{take}
use Rattle.js_numbers.specs.declared.candidates.TheConstants.{MOST_STRUCK}
use Rattle.js_doc.specs.Numbers.{has}
use Rattle.js_numbers.specs.View.{group_of}
use Rattle.number_groups.specs.Outcome.{candidate}
use Rattle.js_numbers.specs.Marking.{AddsMarks}
use Rattle.js_numbers.proofs.marks.mark_values.Given as goal

abbrev pub invariant-loop-x : goal.invariant-loop-x
invariant-loop-x l =
    AddsMarks MOST_STRUCK (candidate l.m (group_of l.group))
    (has (take l.x-index l.values)) l.fn.listed l.listed
