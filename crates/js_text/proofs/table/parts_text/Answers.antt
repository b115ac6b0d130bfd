use Rattle.std.proofs.Common.{◌<◌, length, arith}
use Rattle.std.specs.String.{string_bytes}
use Rattle.document_texts.specs.PartsText.{parts_text}
use Rattle.js_doc.specs.PartView.{part_view}
use Rattle.js_text.proofs.LineLemmas.{lines-step}
use Rattle.js_text.proofs.table.parts_text.Goals as goal

pub loop-number-preserved : goal.loop-number-preserved
loop-number-preserved c =
    let size = c.len-number-end.ensures.value in
    let within : c.loop-number.number < length c.args.parts.now = omega arith in
    lines-step c.args.parts.now c.loop-number.number (part_view c.get.result.now)
    (string_bytes c.loop-number.out) (string_bytes c.push_line.new.out) (parts_text c.args.parts.now) within
    c.get.ensures.value c.in_ok-push_line.ensures c.loop-number.invariant
