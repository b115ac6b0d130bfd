-- The lines that waited were judged, and nothing or a part of a line follows the last one.
use Rattle.std.proofs.Common.{◌≡◌, ◌+◌, suc, [], ap₂, sym, subst, ◌∙◌, arith}
use Rattle.std.proofs.lemmas.List.{append-nil}
use Rattle.verdicts.specs.Verdict as V
use Rattle.verdicts.specs.Verdict.{verdict_of_bytes}
use Rattle.js_checker.specs.Faults.{Tells}
use Rattle.js_checker.specs.CheckerView as C
use Rattle.js_certificate.specs.LinesView.{table_of, premise_of, conclusion_of}
use Rattle.js_certificate.proofs.PartLemmas.{passed, none_of}
use Rattle.js_certificate.proofs.BatchLemmas.{settled}
use Rattle.js_certificate.proofs.EndLemmas.{question_same, end_whole, end_part, end_told}
use Rattle.js_certificate.proofs.lines.LineJudge.finish.Goals as goal

pub returns-in_err-settle-clause-broken : goal.returns-in_err-settle-clause-broken
returns-in_err-settle-clause-broken g c =
    let p = c.args.self.now in
    let fault = c.in_err-settle.field-0.0 in
    passed _ c.from_residual.result fault c.from_residual.ensures.1 (λ bytes h.
    subst (λ xs. Tells fault (verdict_of_bytes (table_of p) (premise_of p) (conclusion_of p) xs)) (append-nil bytes)
    (c.in_err-settle.ensures.broken bytes h []))

pub returns-in_err-accepted-clause-broken : goal.returns-in_err-accepted-clause-broken
returns-in_err-accepted-clause-broken g c =
    let p = c.settle.new.self in
    let fault = c.in_err-accepted.field-0.0 in
    passed _ c.from_residual-in_err-accepted.result fault c.from_residual-in_err-accepted.ensures.1 (λ bytes h.
    let on = c.in_ok-settle.ensures.stands bytes h in
    let taken = settled p.batch on.lines c.settle.ensures.settled on.batch in
    question_same (λ T a b. Tells fault (verdict_of_bytes T a b bytes)) (table_of p) (table_of c.args.self.now)
    (premise_of p) (conclusion_of p) (premise_of c.args.self.now) (conclusion_of c.args.self.now)
    c.settle.ensures.table c.settle.ensures.premise c.settle.ensures.conclusion
    (end_told (table_of p) (premise_of p) (conclusion_of p) bytes on.lines p.reader on.reader
    (none_of _ c.in_ok-settle.ensures.well.sound) fault (c.in_err-accepted.ensures.broken on.lines taken)
    (c.in_err-accepted.ensures.before_end on.lines taken)))

pub returns-in-Ok-clause-accepted : goal.returns-in-Ok-clause-accepted
returns-in-Ok-clause-accepted g c = λ bytes h.
    let p = c.settle.new.self in
    let on = c.in_ok-settle.ensures.stands bytes h in
    let taken = settled p.batch on.lines c.settle.ensures.settled on.batch in
    question_same (λ T a b. verdict_of_bytes T a b bytes ≡ V.Accepted) (table_of p) (table_of c.args.self.now)
    (premise_of p) (conclusion_of p) (premise_of c.args.self.now) (conclusion_of c.args.self.now)
    c.settle.ensures.table c.settle.ensures.premise c.settle.ensures.conclusion
    (end_whole (table_of p) (premise_of p) (conclusion_of p) bytes on.lines p.reader on.reader c.in-Ok.field-0
    c.in-Ok.ensures
    ∙ c.in_ok-accepted.ensures.accepted on.lines taken)

pub returns-in-Err-clause-broken : goal.returns-in-Err-clause-broken
returns-in-Err-clause-broken g c = λ bytes h.
    let p = c.settle.new.self in
    let on = c.in_ok-settle.ensures.stands bytes h in
    let taken = settled p.batch on.lines c.settle.ensures.settled on.batch in
    let next : suc (C.lines_of p.batch.checker) ≡ c.lines.result + 1 =
    omega (arith, c.lines.ensures, c.finish.ensures.lines) in
    question_same (λ T a b. verdict_of_bytes T a b bytes ≡ V.Rejected (c.lines.result + 1) c.number.result)
    (table_of p) (table_of c.args.self.now)
    (premise_of p) (conclusion_of p) (premise_of c.args.self.now) (conclusion_of c.args.self.now)
    c.settle.ensures.table c.settle.ensures.premise c.settle.ensures.conclusion
    (end_part (table_of p) (premise_of p) (conclusion_of p) bytes on.lines p.reader on.reader
    (none_of _ c.in_ok-settle.ensures.well.sound) c.in-Err.field-0 c.in-Err.ensures
    ∙ c.in_ok-accepted.ensures.behind_end on.lines taken ∙ ap₂ V.Rejected next (sym c.number.ensures))
