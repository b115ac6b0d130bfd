-- The node at a place stands for the position there.
use Rattle.std.proofs.Common.{◌≡◌, get_or, map, ap, sym, ◌∙◌, Bool, true, false, ℕ, List, refl}
use Rattle.positions.specs.Position.{Position, position_at}
use Rattle.goals.specs.Goal.{reference}
use Rattle.js_algebra.specs.View.{node_view, with_sign}
use Rattle.js_algebra.specs.Ends.{reference_of}
use Rattle.js_algebra.proofs.Tables.{position_at-map}
use Rattle.js_algebra.proofs.ends.reference.Goals as goal

of_sign : (T : List Position) (b : Bool) (p : ℕ) → reference_of b (position_at T p) ≡ reference T (with_sign b p)
of_sign T true p = refl
of_sign T false p = refl

pub returns : goal.returns
returns c =
    let e : c.index-nodes-x.result ≡ get_or c.args.nodes.now c.args.x.pos.0 c.index-nodes-x.result = cc in
    c.reference.ensures
    ∙ ap (reference_of c.args.x.plus)
    (sym (position_at-map c.args.nodes.now c.args.x.pos.0 c.index-nodes-x.result c.requires e))
    ∙ of_sign (map node_view c.args.nodes.now) c.args.x.plus c.args.x.pos.0
