use Rattle.std.proofs.Common.{take}
use Rattle.js_numbers.specs.declared.candidates.TheConstants.{MOST_STRUCK}
use Rattle.number_groups.specs.Group.{is_listed}
use Rattle.js_numbers.specs.View.{group_of, lists_of}
use Rattle.number_groups.specs.Outcome.{candidate}
use Rattle.js_numbers.specs.Marking.{AddsMarks}
use Rattle.js_numbers.proofs.marks.mark_sets.Given as goal

abbrev pub invariant-loop-values : goal.invariant-loop-values
invariant-loop-values l =
    AddsMarks MOST_STRUCK (candidate l.m (group_of l.group))
    (is_listed (lists_of (take l.values-index l.values-items))) l.fn.listed l.listed
