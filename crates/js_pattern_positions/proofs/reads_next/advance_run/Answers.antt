use Rattle.std.proofs.Common.{◌∙◌, ◌++◌, length, ap}
use Rattle.state_laws.specs.Flow.{flag_at}
use Rattle.js_pattern_positions.specs.Walk.{copies_begun}
use Rattle.js_pattern_positions.proofs.RunSteps.{none_of, run-reads_none, run-reads_some}
use Rattle.js_pattern_positions.proofs.reads_next.advance_run.Goals as goal

pub returns-then-not-contains-clause-flags : goal.returns-then-not-contains-clause-flags
returns-then-not-contains-clause-flags c =
    run-reads_none c.args.next.first (flag_at c.args.read.now.flags) c.args.next.character c.args.set.now
    c.args.times.low c.args.times.high c.copies-count.result c.args.reads.now.flags c.push_none.new.self.flags
    c.args.begins c.contains.result c.copies-count.ensures c.contains.ensures c.if-not-contains.true
    c.push_none.ensures.flags

pub returns-clause-flags : goal.returns-clause-flags
returns-clause-flags c =
    run-reads_some c.args.next.first (flag_at c.args.read.now.flags) c.args.next.character c.args.set.now
    c.args.times.low c.args.times.high c.copies-count.result c.args.reads.now.flags c.push_copies.new.reads.flags
    c.args.begins c.contains.result c.copies-count.ensures c.contains.ensures c.if-not-contains.false
    (c.push_copies.ensures.flags
    ∙ ap (λ b. c.args.reads.now.flags ++ copies_begun b (flag_at c.args.read.now.flags) c.copies-count.result
    (length c.args.reads.now.flags) c.args.begins) (none_of c.args.times.high c.is_none.result c.is_none.ensures))
