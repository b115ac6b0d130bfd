use Rattle.std.proofs.Common.{◌≤◌, length, arith}
use Rattle.js_automaton.specs.TuplesView.{atoms_of}
use Rattle.js_automaton.proofs.RowsLemmas.{between-next, between-end}
use Rattle.js_automaton.proofs.rows.find_rows.Goals as goal

pub loop-row-preserved : goal.loop-row-preserved
loop-row-preserved c = (
  between-next (atoms_of c.args.tuples.now) c.go_through.new.states.keys c.go_through.new.targets.items c.loop-row.row
      c.in_ok-go_through.ensures.found c.in_ok-go_through.ensures.few,
  c.in_ok-go_through.ensures.few,
)

pub returns-clause-rows : goal.returns-clause-rows
returns-clause-rows c =
    let past : length c.loop-row.states.keys ≤ c.loop-row.row =
    omega (arith, c.loop-row-test.false, c.len.ensures.len) in
    between-end (atoms_of c.args.tuples.now) c.loop-row.states.keys c.loop-row.targets.items c.loop-row.row
    c.loop-row.invariant.0 past
