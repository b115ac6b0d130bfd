use Rattle.std.proofs.Common.{take}
use Rattle.std.specs.List.{list_any}
use Rattle.js_numbers.specs.declared.candidates.TheConstants.{MOST_STRUCK}
use Rattle.number_groups.specs.Multiples.{is_multiple}
use Rattle.js_numbers.specs.View.{group_of}
use Rattle.number_groups.specs.Outcome.{candidate}
use Rattle.js_numbers.specs.Marking.{AddsMarks, AreStepsMarked}
use Rattle.js_numbers.proofs.sieve.mark_divisors.Given as goal

abbrev pub invariant-loop-b : goal.invariant-loop-b
invariant-loop-b l = record {
  marks : AddsMarks MOST_STRUCK (candidate l.m (group_of l.group))
      (λ x. list_any (λ b. is_multiple b x) (take l.b-index l.b-items)) l.fn.marks l.marks;
  steps : AreStepsMarked MOST_STRUCK l.m (group_of l.group) l.noted l.marks;
}
