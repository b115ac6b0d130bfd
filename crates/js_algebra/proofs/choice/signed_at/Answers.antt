use Rattle.std.proofs.Common.{ap, sym}
use Rattle.js_algebra.specs.View.{with_sign}
use Rattle.js_algebra.proofs.Choosing.{places-at}
use Rattle.js_algebra.proofs.choice.signed_at.Goals as goal

pub returns : goal.returns
returns c =
    ap (with_sign c.args.plus) (sym (places-at c.args.ps.now c.args.k (record { 0 = 0 }) 0 c.requires))
