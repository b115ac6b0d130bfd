-- The bytes are broken where the lines are.
use Rattle.std.proofs.Common.{Some, refl}
use Rattle.std.proofs.lemmas.Result.{IfErr-weaker}
use Rattle.verdicts.specs.Verdict.{Start}
use Rattle.js_certificate.proofs.PartLemmas.{checker_breaks}
use Rattle.js_certificate.proofs.lines.LineJudge.settle.Goals as goal

pub returns-clause-broken : goal.returns-clause-broken
returns-clause-broken g c =
    IfErr-weaker c.hand_over.result _ _ (λ fault told bytes h.
    checker_breaks _ _ _ bytes h.lines c.args.self.now.reader (Some fault) Start 0 fault refl h.reader
    (told h.lines h.batch)) c.hand_over.ensures.broken
