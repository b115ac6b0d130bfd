use Rattle.std.proofs.Common.{sym, ap, ◌∙◌, subst, arith}
use Rattle.js_automaton.specs.AutomatonView.{atoms_of}
use Rattle.js_row_words.specs.Runs.{AreRuns, spelled}
use Rattle.js_row_words.proofs.RunLaws.{runs_more, spelled_more, block_end}
use Rattle.js_row_words.proofs.runs.add_block.Goals as goal

pub loop-at-preserved : goal.loop-at-preserved
loop-at-preserved c =
    let v = c.loop-at.invariant in
    let r = c.run_at-run.result in
    let first = c.run_at-run.ensures.first in
    let low = v.low in
    let end = c.run_at-run.ensures.end in record {
      low = omega (arith, low);
      high = omega (arith, end, first);
      spelled = ap (λ z. spelled z) c.in_ok-push.ensures.items
          ∙ spelled_more c.loop-at.runs.items r (spelled c.args.runs.now.items) c.args.block.0 c.loop-at.at low first
          v.spelled;
      runs = subst (λ z. AreRuns (atoms_of c.args.automaton.now) z) (sym c.in_ok-push.ensures.items)
          (runs_more (atoms_of c.args.automaton.now) c.loop-at.runs.items r v.runs c.run_at-run.ensures.run);
    }

pub returns-clause-spelled : goal.returns-clause-spelled
returns-clause-spelled c = block_end (spelled c.args.runs.now.items) c.args.block c.loop-at.at
    (spelled c.loop-at.runs.items) c.loop-at.invariant.low c.loop-at.invariant.high
    (omega (arith, c.loop-at-test.false)) c.loop-at.invariant.spelled
