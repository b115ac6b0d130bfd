use Rattle.std.proofs.Common.{◌≡◌, ◌≤◌, ◌-◌, arith, length, take, drop, ap, ◌∙◌}
use Rattle.std.proofs.lemmas.List.{take_all, length-drop}
use Rattle.js_report.proofs.SoFar.{Appends-more}
use Rattle.js_report.proofs.writing.write_report.Goals as goal

pub pieces-preserved : goal.pieces-preserved
pieces-preserved g c =
    let report = c.args.report.now in
    let rest : length (drop c.pieces.done report) ≡ length report - c.pieces.done =
    length-drop c.pieces.done report in
    let left = length report - c.pieces.done in
    let piece = take_all left (drop c.pieces.done report) (omega (arith, rest)) in
    let within : c.in_ok-count.count ≤ length (take left (drop c.pieces.done report)) =
    c.in_ok-count.ensures.within in
    record {
      within = omega (arith, rw piece at within, rest, c.pieces-test.true);
      written = Appends-more _ _ _ report _ c.pieces.done c.in_ok-count.count
          (ap (take c.in_ok-count.count) piece) c.pieces.invariant.written c.in_ok-count.ensures.appended;
      told = c.in_ok-count.ensures.told ∙ c.pieces.invariant.told;
      counted = c.in_ok-count.ensures.counted (omega (arith, c.if-count-eq0.false))
          ∙ c.pieces.invariant.counted;
    }
