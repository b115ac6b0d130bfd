use Rattle.std.proofs.Common.{ap, sym, ◌∙◌, arith}
use Rattle.js_doc.specs.View.{view}
use Rattle.js_doc.proofs.WellFormed.{is_document-view}
use Rattle.js_input.specs.DocumentReading.{RefusedDocument}
use Rattle.js_input.proofs.DocumentReadingLemmas.{of_value-whole, of_value-unwhole}
use Rattle.js_input.proofs.document.read_json_text.Goals as goal

pub returns-in-Ok : goal.returns-in-Ok
returns-in-Ok c = (
  of_value-whole _ (view c.in-Ok.doc) c.in-Ok.ensures.document c.in-Ok.ensures.whole,
  is_document-view c.in-Ok.doc,
)

pub returns-in_ok-words-in-Err-NotWhole : goal.returns-in_ok-words-in-Err-NotWhole
returns-in_ok-words-in-Err-NotWhole c =
    let place = c.in-Err-NotWhole.place in
    let (j, is, first) = c.read_doc.ensures.not_whole place (grind arith) in
    of_value-unwhole _ j place is first ∙ ap RefusedDocument (sym c.in_ok-words-in-Err-NotWhole.ensures)
