use Rattle.std.proofs.Common.{◌*◌}
use Rattle.js_numbers.specs.declared.candidates.TheConstants.{MOST_STRUCK}
use Rattle.number_groups.specs.Group.{is_met}
use Rattle.js_numbers.specs.View.{group_of}
use Rattle.js_numbers.specs.Marking.{IsFirstBelow}
use Rattle.js_numbers.proofs.listed.search_blocks.Given as goal

abbrev pub invariant-loop-block : goal.invariant-loop-block
invariant-loop-block l = IsFirstBelow (l.block * MOST_STRUCK) l.values (is_met (group_of l.group)) l.end
