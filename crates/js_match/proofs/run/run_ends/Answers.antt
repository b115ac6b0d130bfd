use Rattle.std.proofs.Common.{rules, ap, ◌∙◌, arith}
use Rattle.js_match.specs.Runs.{begins, reaches, is_end}
use Rattle.js_match.proofs.RunLaws.{one_more}
use Rattle.js_match.proofs.run.run_ends.Goals as goal

pub loop-end-preserved : goal.loop-end-preserved
loop-end-preserved c =
    let from = c.loop-end.invariant.from (omega (arith, c.loop-end-test.true)) in
    record {
      from = λ h. c.run_start-from.ensures (omega (arith, h));
      last = c.last_start-last.ensures;
      ends = one_more (is_end c.args.set.now c.args.word.now c.args.marks.now c.args.low c.args.high) c.loop-end.end
          c.is_reached.result c.loop-end.ends.items _
          (c.is_reached.ensures
          ∙ ap (λ f. reaches f c.last_start-last.result c.args.high c.loop-end.end) from
          ∙ ap (λ o. reaches (begins c.args.set.now c.args.word.now c.loop-end.end) o c.args.high c.loop-end.end)
          c.last_start-last.ensures)
          c.loop-end.invariant.ends (search rules);
    }
