-- The digits before the last byte are read as the number whose text they are.
use Rattle.std.proofs.Common.{refl, ap, ◌∙◌}
use mir.Syntax.{w128}
use Rattle.std.specs.Result.{result_ok}
use Rattle.std.specs.Fmt.{signed_decimal}
use Rattle.js_text.proofs.ScanLemmas.{before-last}
use Rattle.js_text.proofs.NumberReading.{signed-parsed, signed-text}
use Rattle.js_text.proofs.part_reader.integer.Goals as goal

pub returns-in-Ok-clause-reads : goal.returns-in-Ok-clause-reads
returns-in-Ok-clause-reads c z told is =
    let digits = before-last c.args.text.now (signed_decimal z) 10 is in
    rw c.ok.ensures.value
    (ap result_ok (signed-parsed w128 z c.in-Ok.digits.now c.parse.result refl told (c.in-Ok.ensures.cases.0 ∙ digits)
    c.parse.ensures.value.0))

pub returns-in-Err-clause-reads : goal.returns-in-Err-clause-reads
returns-in-Err-clause-reads c z told is =
    absurd (c.in-Err.ensures.cases.0 (signed-text z _ told (before-last c.args.text.now (signed_decimal z) 10 is)))
