use Rattle.std.proofs.Common.{◌≤◌}
use Rattle.automaton_table.proofs.block.rows_where.Given as goal

abbrev pub invariant-loop-row : goal.invariant-loop-row
invariant-loop-row l = l.count ≤ l.row
