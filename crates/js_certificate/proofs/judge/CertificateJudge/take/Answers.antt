use Rattle.js_certificate.proofs.JudgeLemmas.{judged_of, breaks_more}
use Rattle.js_certificate.proofs.judge.CertificateJudge.take.Goals as goal

pub returns-in-Err-clause-broken : goal.returns-in-Err-clause-broken
returns-in-Err-clause-broken g c = λ bytes more h.
    breaks_more _ _ _ c.in-Err.fault bytes c.args.piece.now more
    (c.in-Err.ensures.broken bytes (judged_of c.args.self.now.fault c.args.self.now.lines bytes c.in_default.is h))
