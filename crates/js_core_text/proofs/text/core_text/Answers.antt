use Rattle.std.proofs.Common.{◌<◌, ◌≤◌, length, arith}
use Rattle.std.specs.String.{string_bytes}
use Rattle.js_algebra.specs.View.{node_view}
use Rattle.js_core_text.specs.CoreText.{core_text}
use Rattle.js_core_text.proofs.LineLemmas.{lines-step, lines-end}
use Rattle.js_core_text.proofs.text.core_text.Goals as goal

pub loop-number-preserved : goal.loop-number-preserved
loop-number-preserved c =
    let size = c.len-number-end.ensures.value in
    let within : c.loop-number.number < length c.args.core.now.positions = omega arith in
    lines-step c.args.core.now.positions c.loop-number.number (node_view c.node.result.now)
    (string_bytes c.loop-number.out) (string_bytes c.push_line.new.out) (core_text c.args.core.now.positions) within
    c.node.ensures.value c.in_ok-push_line.ensures c.loop-number.invariant

pub returns : goal.returns
returns c =
    let size = c.len-number-end.ensures.value in
    let past : length c.args.core.now.positions ≤ c.loop-number.number = omega arith in
    lines-end c.args.core.now.positions c.loop-number.number (string_bytes c.loop-number.out)
    (core_text c.args.core.now.positions) past c.loop-number.invariant
