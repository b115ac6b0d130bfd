-- Where the lines that wait are judged, none of those that were read is rejected.
use Rattle.std.proofs.Common.{inl, inr, refl}
use Rattle.js_certificate.proofs.UnrejectedLemmas.{none_rejected, told_or_memory}
use Rattle.js_certificate.proofs.file.verdict_before.Goals as goal

pub returns-in-Ok-clause-unrejected : goal.returns-in-Ok-clause-unrejected
returns-in-Ok-clause-unrejected g c =
    inr (λ bytes s.
    none_rejected c.settle.new.self _ _ _ c.in-Ok.ensures.going c.in-Ok.ensures.settled c.in-Ok.ensures.table
    c.in-Ok.ensures.premise c.in-Ok.ensures.conclusion bytes (c.in-Ok.ensures.stands bytes s))

pub returns-in-Err-clause-unrejected : goal.returns-in-Err-clause-unrejected
returns-in-Err-clause-unrejected g c =
    told_or_memory _ c.in-Err.fault c.verdict_of.result c.verdict_of.ensures (inl refl)
