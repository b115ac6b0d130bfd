-- What serves a demand passes its test.
use Rattle.std.proofs.Common.{map, filter, length, ◌∙◌, ap, arith}
use Rattle.std.specs.Bool.{beq}
use Rattle.frames.specs.ObjectFrame as O
use Rattle.js_algebra.specs.View.{signed_view}
use Rattle.js_check_objects.specs.Cells.{cells_in}
use Rattle.js_name_tests.specs.NameTests.{passes}
use Rattle.js_name_tests.proofs.Framing.{told-at, told-many, within-at}
use Rattle.js_check_objects.proofs.object_frame.ObjectFrameCheckFrame.is_inside.Goals as goal

pub index-server-requires : goal.index-server-requires
index-server-requires c =
    let T = c.args.self.now.core.now.positions in
    let C = cells_in c.args.self.now.cells in
    let S = map signed_view c.args.self.now.set.items in
    let e = told-many (passes C c.args.cell) (λ x. O.inside T C x c.args.cell) c.args.self.now.servers.items
    (filter (O.is_demand T) S) (c.args.self.now.servers_are c.args.cell) in
    let l = c.requires in
    omega (arith, e, l)

pub says-requires : goal.says-requires
says-requires c =
    let T = c.args.self.now.core.now.positions in
    let C = cells_in c.args.self.now.cells in
    let S = map signed_view c.args.self.now.set.items in
    let e = told-many (passes C c.args.cell) (λ x. O.inside T C x c.args.cell) c.args.self.now.servers.items
    (filter (O.is_demand T) S) (c.args.self.now.servers_are c.args.cell) in
    let l = c.requires in
    within-at (length C.names) c.args.self.now.servers.items c.args.demand c.args.self.now.servers_within
    (omega (arith, e, l)) c.index-server.result.now c.index-server.ensures

pub returns : goal.returns
returns c =
    let T = c.args.self.now.core.now.positions in
    let C = cells_in c.args.self.now.cells in
    let S = map signed_view c.args.self.now.set.items in
    ap (λ b. beq b c.index-server.result.now.truth) c.says.ensures
    ∙ told-at (passes C c.args.cell) (λ x. O.inside T C x c.args.cell) c.args.self.now.servers.items
    (filter (O.is_demand T) S) c.args.demand (c.args.self.now.servers_are c.args.cell) c.requires
    c.index-server.result.now c.index-server.ensures
