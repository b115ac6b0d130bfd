-- Positions that are named are in the table.
use Rattle.std.proofs.Common.{◌≡◌, length, true, sym, subst}
use Rattle.js_algebra.specs.View.{node_view, are_in_table}
use Rattle.js_elements.proofs.Asking.{plus_each-below}
use Rattle.js_elements.proofs.elements.asked.Goals as goal

pub returns-then-x-clause-in_table : goal.returns-then-x-clause-in_table
returns-then-x-clause-in_table c =
    subst (λ xs. are_in_table c.args.core.now.positions xs ≡ true) (sym c.plus_each.ensures)
    (plus_each-below (length c.args.core.now.positions) c.args.index (node_view c.node-node.result.now)
    c.node-node.ensures.named)
