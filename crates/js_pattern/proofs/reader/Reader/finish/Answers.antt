use Rattle.std.proofs.Common.{◌<◌, length, sym, vec_len, arith}
use Rattle.std.proofs.lemmas.Bool.{eqb-false}
use Rattle.js_pattern.specs.Progress.{part}
use Rattle.js_pattern.proofs.Steps.{levels_open}
use Rattle.js_pattern.proofs.reader.Reader.finish.Goals as goal

pub returns-then-not-is_empty-clause-fault : goal.returns-then-not-is_empty-clause-fault
returns-then-not-is_empty-clause-fault c _ =
    let some = eqb-false (vec_len c.args.self.outers) 0 (sym c.if-not-is_empty.ensures) in
    let more : 0 < length c.args.self.outers.items = omega (arith, some, c.args.self.outers.ok.0) in
    levels_open c.args.self.outers.items (part c.args.self.level) c.args.at more
