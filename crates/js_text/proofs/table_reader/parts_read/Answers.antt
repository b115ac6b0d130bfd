-- The first line counts the parts, or gives the fault.
use Rattle.std.proofs.Common.{ap, subst}
use Rattle.document_texts.specs.PartsRead.{IsFault}
use Rattle.document_text_laws.proofs.ReadLaws.{fault-count}
use Rattle.js_text.specs.Reads.{ReadsCount}
use Rattle.js_text.proofs.TableReading.{counts-none, line_in}
use Rattle.js_text.proofs.table_reader.parts_read.Goals as goal

pub returns-in-None-clause-fault : goal.returns-in-None-clause-fault
returns-in-None-clause-fault c line e =
    let read = subst (ReadsCount c.first_line.result.0.now) c.in-None.is c.in_ok-read_count.ensures in
    subst (λ n. IsFault n c.args.bytes.now) (ap line_in e)
    (fault-count c.first_line.result.0.now c.first_line.result.1.now c.args.bytes.now c.first_line.ensures
    (λ n some l is. read n l is))

pub returns-in-Some-eq0-clause-fault : goal.returns-in-Some-eq0-clause-fault
returns-in-Some-eq0-clause-fault c line e =
    let read = subst (ReadsCount c.first_line.result.0.now) c.in-Some-eq0.is c.in_ok-read_count.ensures in
    subst (λ n. IsFault n c.args.bytes.now) (ap line_in e)
    (fault-count c.first_line.result.0.now c.first_line.result.1.now c.args.bytes.now c.first_line.ensures
    (λ n some l is. counts-none c.first_line.result.0.now
    c.in-Some-eq0.field-0 n read c.in-Some-eq0.field-0-test some l is))
