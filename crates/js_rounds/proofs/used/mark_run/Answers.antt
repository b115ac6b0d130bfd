-- The mark is set where the run has the goal, and it has one.
use Rattle.std.proofs.Common.{◌≡◌, inl, inr, arith}
use Rattle.js_expansion.specs.View.{slot_view}
use Rattle.js_rounds.proofs.Marks.{run_marked, run_unmarked}
use Rattle.js_rounds.proofs.used.mark_run.Goals as goal
use Rattle.js_rounds.proofs.used.mark_run.Goals.{else-run-gt0-via-then-run-gt0+else-goal-marks, else-run-gt0-via-else-run-gt0}

pub returns-then-goal-marks-clause-marks : goal.returns-then-goal-marks-clause-marks
returns-then-goal-marks-clause-marks c m l =
    let r = c.args.run.now in
    run_marked c.args.marks.now (slot_view r.slot) r.count r.goal m c.if-run-gt0.true c.if-goal-marks.true l

pub returns-else-run-gt0-clause-marks : goal.returns-else-run-gt0-clause-marks
returns-else-run-gt0-clause-marks c m l =
    let r = c.args.run.now in
    elim c.else-run-gt0.branch [
      | else-run-gt0-via-then-run-gt0+else-goal-marks w ↦
          run_unmarked c.args.marks.now (slot_view r.slot) r.count r.goal m (inr w.if-goal-marks.false) l
      | else-run-gt0-via-else-run-gt0 w ↦
          let none : r.count ≡ 0 = omega (arith, w.if-run-gt0.false) in
          run_unmarked c.args.marks.now (slot_view r.slot) r.count r.goal m (inl none) l
    ]
