-- What serves a demand is kept in its row.
use Rattle.std.proofs.Common.{◌-◌, ◌<◌, map, filter, min, get_or, false, ap, ◌∙◌, arith}
use Rattle.frames.specs.ObjectFrame as O
use Rattle.js_algebra.specs.View.{signed_view}
use Rattle.js_cells.specs.View.{cells_view}
use Rattle.js_objects.proofs.Framing.{is_passed_at-inside}
use Rattle.js_objects.proofs.object_frame.ObjectFramePlanFrame.inside.Goals as goal

pub returns-clause-some : goal.returns-clause-some
returns-clause-some c =
    let long = c.row.ensures.long in
    let wide = c.args.self.now.inside_are.wide in
    omega (arith, long, wide)

pub returns-clause-told : goal.returns-clause-told
returns-clause-told c = λ k.
    let f = c.args.self.now in
    let T = f.core.now.positions in
    let demands = filter (O.is_demand T) (map signed_view f.set.now) in
    let w = f.inside.width in
    let within : min k (w - 1) < w = (let wide = f.inside_are.wide in omega (arith, wide)) in
    ap (λ n. get_or c.row.result.now (min k (n - 1)) false) c.row.ensures.long
    ∙ c.row.ensures.truths (min k (w - 1)) within
    ∙ is_passed_at-inside T (cells_view f.cells) demands f.inside f.inside_are c.args.demand k c.requires
