use Rattle.js_numbers.specs.declared.candidates.TheConstants.{MOST_STRUCK}
use Rattle.number_groups.specs.Group.{is_listed}
use Rattle.js_numbers.specs.View.{lists_of}
use Rattle.js_numbers.proofs.ListedLaws.{AreListed-from_none}
use Rattle.js_numbers.proofs.listed.search_block.Goals as goal

pub first_met-requires-clause-marks : goal.first_met-requires-clause-marks
first_met-requires-clause-marks c =
    AreListed-from_none MOST_STRUCK c.args.start 65536 c.args.values.now
    (is_listed (lists_of c.args.group.now.not_sets.now))
    c.mark_sets.new.listed c.mark_sets.ensures
