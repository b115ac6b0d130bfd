use Rattle.std.proofs.Common.{refl}
use Rattle.js_certificate.proofs.PartLemmas.{count_within}
use Rattle.js_certificate.proofs.reading.read_part.Goals as goal

pub returns-in-Ok-clause-stands : goal.returns-in-Ok-clause-stands
returns-in-Ok-clause-stands c = λ bytes ls h. c.in-Ok.ensures.cut bytes ls refl h

pub returns-in-Ok-clause-within : goal.returns-in-Ok-clause-within
returns-in-Ok-clause-within c =
    count_within c.args.reader.now c.args.piece.now c.in-Ok.count c.in-Ok.ensures.answer
