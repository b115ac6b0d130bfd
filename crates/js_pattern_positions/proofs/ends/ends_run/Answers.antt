use Rattle.std.proofs.Common.{◌||◌, ◌∙◌, sym, ap, arith}
use Rattle.state_laws.specs.Flow.{flag_at}
use Rattle.js_pattern_positions.proofs.RunSteps as R
use Rattle.js_pattern_positions.proofs.ends.ends_run.Goals as goal

pub returns-clause-ends : goal.returns-clause-ends
returns-clause-ends c = λ ranges first last.
    let read = flag_at c.args.read.now.flags in
    ap (λ x. c.may_end.result || x) c.has_some.ensures
    ∙ R.run-rest read c.args.times.low c.args.times.high c.args.base c.args.begins c.saturating_sub-left.result
    c.copies-count.result c.saturating_sub-skipped.result c.may_end.result
    (sym c.saturating_sub-left.ensures) (omega (arith, c.saturating_sub-skipped.ensures))
    (R.run-init read c.args.times.low c.args.times.high c.args.base c.args.begins c.copies-count.result
    c.saturating_sub-skipped.result c.may_end.result c.copies-count.ensures c.saturating_sub-skipped.ensures
    c.may_end.ensures)
    ranges first last
