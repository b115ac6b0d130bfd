use Rattle.std.proofs.Common.{◌++◌, take, arith, subst, ◌∙◌}
use Rattle.js_certificate.specs.LinesView.{table_of, premise_of, conclusion_of, AreJudged}
use Rattle.js_certificate.proofs.PartLemmas.{passed, rest-shorter, broken_rest, broken_same, part_taken}
use Rattle.js_certificate.proofs.lines.LineJudge.take.Goals as goal

pub returns-in_err-count-clause-broken : goal.returns-in_err-count-clause-broken
returns-in_err-count-clause-broken g c =
    let read = c.loop-read.read in
    passed _ c.from_residual.result c.in_err-count.field-0.0 c.from_residual.ensures.1 (λ bytes h.
    broken_same _ _ _ _ _ _ _ (bytes ++ c.args.piece.now) c.loop-read.invariant.table
    c.loop-read.invariant.premise c.loop-read.invariant.conclusion
    (broken_rest (table_of c.loop-read.self) (premise_of c.loop-read.self) (conclusion_of c.loop-read.self)
    c.in_err-count.field-0.0 bytes c.args.piece.now read
    (c.in_err-count.ensures.broken (bytes ++ take read c.args.piece.now)
    (c.loop-read.invariant.stands bytes h))))

pub loop-read-preserved : goal.loop-read-preserved
loop-read-preserved g c =
    let read = c.loop-read.read in
    let piece = c.args.piece.now in
    let rest = rest-shorter read piece c.loop-read.invariant.within in
    record {
      within = omega (arith, rest, c.in_ok-count.ensures.within);
      well = c.in_ok-count.ensures.well;
      waits = λ h. c.in_ok-count.ensures.waits (c.loop-read.invariant.waits h);
      stands = λ bytes h.
          subst (AreJudged c.take_part.new.self) (part_taken bytes piece read c.in_ok-count.count)
          (c.in_ok-count.ensures.stands (bytes ++ take read piece) (c.loop-read.invariant.stands bytes h));
      counted = omega (arith, c.in_ok-count.ensures.counted, c.loop-read.invariant.counted);
      table = c.in_ok-count.ensures.table ∙ c.loop-read.invariant.table;
      premise = c.in_ok-count.ensures.premise ∙ c.loop-read.invariant.premise;
      conclusion = c.in_ok-count.ensures.conclusion ∙ c.loop-read.invariant.conclusion;
    }
