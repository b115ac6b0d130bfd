use Rattle.js_numbers.specs.declared.candidates.TheConstants.{MOST_STRUCK}
use Rattle.js_numbers.specs.View.{group_of}
use Rattle.js_numbers.proofs.MarkLaws.{AreStruckMarked-from_both}
use Rattle.js_numbers.proofs.search.search.Goals as goal

pub search_unmarked-requires-clause-marks : goal.search_unmarked-requires-clause-marks
search_unmarked-requires-clause-marks c =
    AreStruckMarked-from_both MOST_STRUCK c.args.m (group_of c.args.group.now) c.mark_sets.new.listed
    c.mark_divisors.new.marks c.mark_sets.ensures c.mark_divisors.ensures
