-- Positions that are named are in the table.
use Rattle.std.proofs.Common.{◌≡◌, length, true, sym, subst}
use Rattle.js_algebra.specs.View.{node_view, are_in_table}
use Rattle.js_elements.proofs.Asking.{minus_serving-below}
use Rattle.js_elements.proofs.elements.served.Goals as goal

pub returns-else-x-clause-in_table : goal.returns-else-x-clause-in_table
returns-else-x-clause-in_table c =
    subst (λ xs. are_in_table c.args.core.now.positions xs ≡ true) (sym c.minus_serving.ensures)
    (minus_serving-below (length c.args.core.now.positions) c.args.index (node_view c.node-node.result.now)
    c.node-node.ensures.named)
