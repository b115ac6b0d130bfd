use Rattle.std.proofs.Common.{option_map, string_bytes, refl}
use Rattle.std.proofs.lemmas.Result.{IfOk-weaker}
use Rattle.js_commands.specs.IncludeSaying.{answer_view}
use Rattle.js_commands.specs.IncludeOutcome.{FirstRefused, SecondRefused}
use Rattle.js_top.specs.Report.{IsComparedReport}
use Rattle.js_top.proofs.Includes.{IfOk-both, ReportSays-answer, ReportSays-found}
use Rattle.js_top.proofs.MeaningLaws.{printable}
use Rattle.js_top.proofs.prepare.prepare_compared.Goals as goal

pub answered-requires : goal.answered-requires
answered-requires g c =
    let (same, comes, means) = rw c.in-Decided.is at c.in_ok-verdict.ensures.says in
    printable means.a means.b (answer_view c.in-Decided.verdict) means.tells

pub returns-in-Decided-clause-says : goal.returns-in-Decided-clause-says
returns-in-Decided-clause-says g c =
    let (same, comes, means) = rw c.in-Decided.is at c.in_ok-verdict.ensures.says in
    IfOk-both c.answered.result _ _ _ c.answered.ensures.report c.answered.ensures.read (λ p e back.
    ReportSays-found (g.H.Shelf.told c.args.shelf.now) c.args.first.now (option_map (λ s. s.now) c.args.second)
    (answer_view c.in-Decided.verdict) _ _ _ p c.is_sat.result same refl c.is_sat.ensures comes
    means e back)

pub returns-in-FirstRefused-clause-says : goal.returns-in-FirstRefused-clause-says
returns-in-FirstRefused-clause-says g c =
    let (same, comes, means) = rw c.in-FirstRefused.is at c.in_ok-verdict.ensures.says in
    IfOk-weaker c.refused.result _ _ (λ p e.
    ReportSays-answer (IsComparedReport (g.H.Shelf.told c.args.shelf.now) c.args.first.now
    (option_map (λ s. s.now) c.args.second)) _ _ _ p _ same refl e refl
    (FirstRefused (string_bytes c.in-FirstRefused.words), comes, tt, tt, refl)) c.refused.ensures

pub returns-in-SecondRefused-clause-says : goal.returns-in-SecondRefused-clause-says
returns-in-SecondRefused-clause-says g c =
    let (same, comes, means) = rw c.in-SecondRefused.is at c.in_ok-verdict.ensures.says in
    IfOk-weaker c.refused-in-SecondRefused.result _ _ (λ p e.
    ReportSays-answer (IsComparedReport (g.H.Shelf.told c.args.shelf.now) c.args.first.now
    (option_map (λ s. s.now) c.args.second)) _ _ _ p _ same refl e refl
    (SecondRefused (string_bytes c.in-SecondRefused.words), comes, tt, tt, refl)) c.refused-in-SecondRefused.ensures
