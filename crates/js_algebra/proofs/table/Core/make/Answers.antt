-- The references of a table end in it.
use Rattle.std.proofs.Common.{map, subst, sym}
use Rattle.js_algebra.specs.View.{node_view}
use Rattle.js_algebra.specs.Ends.{HasEnds}
use Rattle.js_algebra.proofs.Ended.{table-ends}
use Rattle.js_algebra.proofs.table.Core.make.Goals as goal

pub ends_of-requires-clause-ended : goal.ends_of-requires-clause-ended
ends_of-requires-clause-ended c =
    subst (λ ns. HasEnds (map node_view ns)) (sym c.as_slice.ensures)
    (table-ends (map node_view c.args.nodes) c.args.ranks c.requires.table)
