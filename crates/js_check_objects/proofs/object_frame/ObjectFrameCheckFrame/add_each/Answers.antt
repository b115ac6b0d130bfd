-- There are no first places.
use Rattle.std.proofs.Common.{map, sym, append-nil}
use Rattle.js_algebra.specs.View.{signed_view}
use Rattle.js_check_objects.specs.Cells.{cells_in}
use Rattle.js_name_tests.proofs.Framing.{each-head}
use Rattle.js_check_objects.proofs.object_frame.ObjectFrameCheckFrame.add_each.Goals as goal

pub returns-in-Head-clause-added : goal.returns-in-Head-clause-added
returns-in-Head-clause-added c =
    let T = c.args.self.now.core.now.positions in
    let C = cells_in c.args.self.now.cells in
    let S = map signed_view c.args.self.now.set.items in
    let L = map signed_view c.args.list.now.items in
    rw c.in-Head.is (rw (each-head T C c.in-Head.field-0 S) (sym (append-nil L)))
