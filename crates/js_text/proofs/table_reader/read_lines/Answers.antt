-- Each line is that of the next part, or gives the fault.
use Rattle.std.proofs.Common.{◌++◌, ◌∷◌, [], length, Err, sym, ap, ◌∙◌, subst, arith, length-append}
use Rattle.document_texts.specs.PartsText.{count_text}
use Rattle.document_text_laws.proofs.ReadLaws.{Reading, fault-line, fault-more, reading-next}
use Rattle.std.specs.Bool.{◌==◌}
use Rattle.std.proofs.lemmas.Bool.{true≢false}
use Rattle.document_texts.specs.PartsRead.{IsFault}
use Rattle.js_text.specs.declared.table_reader.PartsLineFault.TheVariants as F
use Rattle.js_text.proofs.TableReading.{line_in, passed}
use Rattle.js_text.proofs.table_reader.read_lines.Goals as goal

pub returns-in_err-take_line-clause-fault : goal.returns-in_err-take_line-clause-fault
returns-in_err-take_line-clause-fault c line e =
    let met = c.in_err-take_line.field-0.0 in
    let told = ap Err (passed c.from_residual.result met (F.NotAPart line) c.from_residual.ensures.1 e) in
    let number = c.in_err-take_line.ensures.number line told in
    subst (λ n. IsFault n (count_text c.args.count ++ c.args.lines.now)) (omega (arith, number))
    (fault-line c.args.count c.loop.parts c.loop.left.now _ c.loop.invariant.reading
    c.first_line.result.0.now c.first_line.result.1.now (omega (arith, c.loop.invariant.size, c.loop-test.true))
    c.first_line.ensures (c.in_err-take_line.ensures.none line told))

pub loop-preserved : goal.loop-preserved
loop-preserved c =
    let t = c.in_ok-take_line.ensures.taken in
    record {
      reading = subst (λ ps. Reading c.args.count ps c.first_line.result.1.now
          (count_text c.args.count ++ c.args.lines.now))
          (sym t.taken)
          (reading-next c.args.count c.loop.parts t.part c.first_line.result.0.now c.first_line.result.1.now
          c.loop.left.now _ c.loop.invariant.reading (omega (arith, c.loop.invariant.size, c.loop-test.true))
          c.first_line.ensures.text t.line_is t.is t.told);
      size = ap length t.taken ∙ length-append c.loop.parts (t.part ∷ [])
          ∙ omega (arith, c.loop.invariant.size);
    }

pub returns-then-not-is_empty-clause-fault : goal.returns-then-not-is_empty-clause-fault
returns-then-not-is_empty-clause-fault c line e =
    subst (λ n. IsFault n (count_text c.args.count ++ c.args.lines.now)) (omega (arith, c.from.ensures, ap line_in e))
    (fault-more c.args.count c.loop.parts c.loop.left.now _ c.loop.invariant.reading
    (omega (arith, c.loop.invariant.size, c.loop-test.false))
    (λ none. true≢false (sym (c.if-not-is_empty.ensures ∙ ap (λ xs. length xs == 0) none))))
