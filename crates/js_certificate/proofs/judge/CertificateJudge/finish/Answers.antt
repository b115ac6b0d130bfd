use Rattle.js_certificate.proofs.JudgeLemmas.{told_whole}
use Rattle.js_certificate.proofs.judge.CertificateJudge.finish.Goals as goal

pub returns-in-Some-clause-broken : goal.returns-in-Some-clause-broken
returns-in-Some-clause-broken g c = λ bytes h. told_whole _ _ _ bytes c.in-Some.is h
