use Rattle.std.proofs.Common.{◌<◌, ◌≤◌, length, arith}
use Rattle.js_doc.specs.PartView.{part_view}
use Rattle.js_text.proofs.ToldLemmas.{told-next, read-table}
use Rattle.js_text.proofs.told.is_told.Goals as goal

pub loop-number-preserved : goal.loop-number-preserved
loop-number-preserved c =
    let size = c.len-number-end.ensures.value in
    let within : c.loop-number.number < length c.args.parts.now = omega arith in
    let few : length c.args.parts.now ≤ 4294967295 = omega arith in
    told-next c.args.parts.now c.loop-number.number (part_view c.get.result.now) within few c.get.ensures.value
    c.get.ensures.part c.part_is_told.ensures c.loop-number.invariant

pub returns : goal.returns
returns c =
    let size = c.len-number-end.ensures.value in
    let end : length c.args.parts.now ≤ c.loop-number.number = omega arith in
    let few : length c.args.parts.now ≤ 4294967295 = omega arith in
    read-table c.args.parts.now c.loop-number.number c.len-number-end.ensures.table c.requires few end
    c.loop-number.invariant
