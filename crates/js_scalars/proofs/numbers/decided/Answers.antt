-- The group is ready, as the positions are those of a table.
use Rattle.std.proofs.Common.{ap, ◌∙◌}
use Rattle.number_groups.specs.Group.{is_ready}
use Rattle.number_finder.specs.SetGroup.{number_group}
use Rattle.scalar_laws.proofs.Ready.{table-is_ready}
use Rattle.js_scalars.proofs.numbers.decided.Goals as goal

pub decide-requires : goal.decide-requires
decide-requires c =
    ap is_ready (c.group.ensures ∙ c.in_ok-asked.ensures
    ∙ ap (number_group c.args.core.now.positions) c.as_slice.ensures)
    ∙ table-is_ready c.args.core.now.positions c.args.core.now.ranks c.len-length.ensures.table c.args.branch.now.set
