-- One run after another.
use Rattle.std.proofs.Common.{◌<◌, ◌||◌, ◌∙◌, sym, subst, false, get_or, nat_eq}
use Rattle.documents.specs.Tests.{some}
use Rattle.js_expansion.specs.declared.alternative.Slot.TheVariants.{Index}
use Rattle.js_rounds.specs.Spread.{spread}
use Rattle.js_rounds.proofs.Marks.{runs_turn, runs_end}
use Rattle.js_rounds.proofs.used.mark_runs.Goals as goal

pub loop-run-preserved : goal.loop-run-preserved
loop-run-preserved c =
    let i = c.loop-run.invariant in
    record {
      same = c.mark_run.ensures.length ∙ i.same;
      marks = λ m l. runs_turn c.args.runs.now c.loop-run.run-index (record { slot = Index 0; goal = 0; count = 0 }) m
          (get_or c.loop-run.marks m false) (get_or c.mark_run.new.marks m false)
          (get_or c.args.marks.now m false || some (λ p. nat_eq p.goal m) (spread c.args.runs.now)) c.loop-run-test.true
          (c.mark_run.ensures.marks m (subst (λ n. m < n) (sym i.same) l)) (i.marks m l);
    }

pub returns-clause-marks : goal.returns-clause-marks
returns-clause-marks c m l =
    runs_end c.args.runs.now c.loop-run.run-index m (get_or c.loop-run.marks m false)
    (get_or c.args.marks.now m false || some (λ p. nat_eq p.goal m) (spread c.args.runs.now)) c.loop-run-test.false
    (c.loop-run.invariant.marks m l)
