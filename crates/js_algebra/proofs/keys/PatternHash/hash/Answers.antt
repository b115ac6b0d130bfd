use Rattle.std.proofs.Common.{encode_utf8_all}
use Rattle.std.specs.Hash as fed
use Rattle.js_pattern.specs.View.{view}
use Rattle.js_pattern.specs.Fingerprint.{tree_print}
use Rattle.js_algebra.proofs.keys.PatternHash.hash.Goals as goal

pub returns : goal.returns
returns g c =
    fed.fed_then g.H.Hasher.write _ _ _ (fed.str (encode_utf8_all c.args.self.now.source))
    (fed.u64 (tree_print (view c.args.self.now.re))) c.hash.ensures c.hash-2.ensures
