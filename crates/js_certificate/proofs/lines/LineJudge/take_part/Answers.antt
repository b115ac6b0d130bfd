-- A part of a piece was read, and the line that waited was judged, or waits with others. Where the reader met a fault,
-- those that wait are judged first.
use Rattle.std.proofs.Common.{◌++◌, refl, arith}
use Rattle.std.specs.Prelude.{option_to_list}
use Rattle.certificate_lines.specs.Reader.{read_count}
use Rattle.verdicts.specs.Verdict.{Start}
use Rattle.js_certificate.proofs.PartLemmas.{passed, none_of, read_breaks, line_breaks, checker_breaks, broken_longer, broken_same, reader_on}
use Rattle.js_certificate.proofs.BatchLemmas.{settled}
use Rattle.js_certificate.proofs.lines.LineJudge.take_part.Goals as goal

pub returns-in_err-judge_line-in-Ok-clause-broken : goal.returns-in_err-judge_line-in-Ok-clause-broken
returns-in_err-judge_line-in-Ok-clause-broken g c =
    passed _ c.from_residual.result c.in_err-judge_line-in-Ok.field-0.0 c.from_residual.ensures.1 (λ bytes h.
    line_breaks _ _ _ bytes c.args.piece.now (read_count c.args.piece.now) _ _ _ Start 0 _ refl
    (c.in-Ok.ensures.stands bytes h.lines h.reader) (c.in_err-judge_line-in-Ok.ensures.broken h.lines h.batch))

pub overflow_add-self : goal.overflow_add-self
overflow_add-self g c = omega (arith, c.in_ok-judge_line-in-Ok.ensures.bytes, c.in-Ok.ensures.within, c.requires.few)

pub returns-in_ok-judge_line-in-Ok-clause-stands : goal.returns-in_ok-judge_line-in-Ok-clause-stands
returns-in_ok-judge_line-in-Ok-clause-stands g c = λ bytes h. record {
  lines = h.lines ++ option_to_list c.read_part.new.reader.waiting;
  reader = reader_on bytes c.args.piece.now _ _ _ _ c.in-Ok.ensures.count c.in_ok-judge_line-in-Ok.ensures.reader
      (c.in-Ok.ensures.stands bytes h.lines h.reader);
  batch = c.in_ok-judge_line-in-Ok.ensures.stands h.lines h.batch;
}

pub returns-in_err-hand_over-in-Err-clause-broken : goal.returns-in_err-hand_over-in-Err-clause-broken
returns-in_err-hand_over-in-Err-clause-broken g c =
    passed _ c.from_residual-in_err-hand_over-in-Err.result c.in_err-hand_over-in-Err.field-0.0
    c.from_residual-in_err-hand_over-in-Err.ensures.1 (λ bytes h.
    broken_longer _ _ _ c.in_err-hand_over-in-Err.field-0.0 bytes c.args.piece.now
    (checker_breaks _ _ _ bytes h.lines _ _ Start 0 c.in_err-hand_over-in-Err.field-0.0 refl h.reader
    (c.in_err-hand_over-in-Err.ensures.broken h.lines h.batch)))

pub returns-in_ok-hand_over-in-Err-clause-broken : goal.returns-in_ok-hand_over-in-Err-clause-broken
returns-in_ok-hand_over-in-Err-clause-broken g c = λ bytes h.
    broken_same _ _ _ _ _ _ c.in-Err.fault (bytes ++ c.args.piece.now) c.hand_over.ensures.table
    c.hand_over.ensures.premise c.hand_over.ensures.conclusion
    (read_breaks _ _ _ bytes c.args.piece.now h.lines c.args.self.now.reader _ _ _ c.in-Err.fault
    (none_of _ c.requires.well.idle) (none_of _ c.requires.well.sound) c.in_ok-hand_over-in-Err.ensures.going h.reader
    (settled c.hand_over.new.self h.lines c.hand_over.ensures.waiting
    (c.in_ok-hand_over-in-Err.ensures.stands h.lines h.batch)) c.in-Err.ensures.broken)
