use Rattle.std.proofs.Common.{map, length, ap, arith}
use Rattle.cells.specs.Cells.{naming}
use Rattle.js_algebra.specs.View.{signed_view}
use Rattle.js_automaton.specs.AutomatonView.{rows_of}
use Rattle.js_said.proofs.RowVectors.{vectors-few}
use Rattle.js_cells.proofs.name_cells.Cells.len.Goals as goal

pub overflow_cast-result : goal.overflow_cast-result
overflow_cast-result c =
    let few = vectors-few c.args.self.now.core.now.positions
    (naming c.args.self.now.core.now.positions (map signed_view c.args.self.now.set.now))
    (rows_of c.args.self.now.automaton.now) in
    omega (
      arith,
      few,
      ap length c.args.self.now.grouped,
      c.len.ensures.len,
      c.args.self.now.automaton.now.found.1.1,
    )
