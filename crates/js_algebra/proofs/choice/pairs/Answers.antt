use Rattle.std.proofs.Common.{◌<◌, arith}
use Rattle.js_algebra.proofs.Choosing.{pairs-half, pairs-fit}
use Rattle.js_algebra.proofs.choice.pairs.Goals as goal

pub returns : goal.returns
returns c =
    let some : 0 < c.args.n = omega (arith, c.if-many-eq0.false) in
    record {
      value = pairs-half c.args.n some;
      bound = omega (arith, pairs-half c.args.n some, pairs-fit c.args.n c.ranges.n.fits);
    }
