-- A line's part is taken, unless it names one that is still to come.
use Rattle.std.proofs.Common.{Err, option_map, ap, ◌∙◌, subst}
use Rattle.document_texts.specs.PartsText.{line_text}
use Rattle.js_doc.specs.PartView.{part_view}
use Rattle.js_text.specs.Reads.{ReadsLine}
use Rattle.js_text.proofs.TableReading.{taken-line, forward-line}
use Rattle.js_text.proofs.table_reader.take_line.Goals as goal

pub returns-in-Ok-clause-taken : goal.returns-in-Ok-clause-taken
returns-in-Ok-clause-taken c =
    let read = subst (λ o. ReadsLine c.len-place.result c.args.line.now (option_map part_view o)) c.in-Some.is
    c.in_ok-part.ensures in
    let place = ap (λ n. line_text n (part_view c.in-Some.part)) c.len-place.ensures.value in
    taken-line c.args.parts.now c.push.new.self (part_view c.in-Some.part) c.args.line.now read.0 (read.1 ∙ place)
    c.in-Ok.ensures.below c.in-Ok.ensures.taken

pub returns-in-Err-ForwardPart-clause-none : goal.returns-in-Err-ForwardPart-clause-none
returns-in-Err-ForwardPart-clause-none c n e =
    let read = subst (λ o. ReadsLine c.len-place.result c.args.line.now (option_map part_view o)) c.in-Some.is
    c.in_ok-part.ensures in
    let place = ap (λ n. line_text n (part_view c.in-Some.part)) c.len-place.ensures.value in
    let id = c.in-Err-ForwardPart.field-0-0 in
    forward-line c.args.parts.now (part_view c.in-Some.part) c.args.line.now id.0 c.requires read.0 (read.1 ∙ place)
    ((c.in-Err-ForwardPart.ensures.forward id).0 (ap Err c.in-Err-ForwardPart.field-0-is))
