use Rattle.std.proofs.Common.{◌+◌, ◌*◌, ◌||◌, ◌∙◌, ◌++◌, false, length, ap, ap₂}
use Rattle.state_laws.specs.Flow.{flag_at}
use Rattle.js_pattern_positions.specs.Walk.{some_in}
use Rattle.js_pattern_positions.specs.Choices.{choices_begun}
use Rattle.js_pattern_positions.proofs.RunSteps.{none_of}
use Rattle.js_pattern_positions.proofs.ChoicesLemmas.{choices-reads, choices-ends}
use Rattle.js_pattern_positions.proofs.reads_next.advance_choices.Goals as goal

pub returns-clause-ends : goal.returns-clause-ends
returns-clause-ends c = λ ts character first choice.
    let read = flag_at c.args.read.now.flags in
    let size = c.args.choice.count in
    ap (λ x. c.may_end.result || x)
    (c.has_some.ensures
    ∙ ap₂ (λ k p. some_in read (k * size) (p + c.saturating_sub-skipped.result * size)) c.saturating_sub.ensures
    c.len.ensures)
    ∙ choices-ends ts character size c.args.choice.bits choice first false read c.args.times.low c.args.times.high
    c.copies-count.result c.saturating_sub-skipped.result (length c.args.reads.now.flags) c.args.begins
    c.may_end.result c.copies-count.ensures c.saturating_sub-skipped.ensures c.may_end.ensures

pub returns-clause-flags : goal.returns-clause-flags
returns-clause-flags c = λ ts character first choice.
    let read = flag_at c.args.read.now.flags in
    let flags = c.args.reads.now.flags in
    choices-reads ts character c.args.choice.count c.args.choice.bits choice first read c.args.times.low
    c.args.times.high c.copies-count.result flags c.push_choices.new.reads.flags c.args.begins c.copies-count.ensures
    (c.push_choices.ensures.flags
    ∙ ap (λ b. flags ++ choices_begun b c.args.choice.bits c.args.choice.count read c.copies-count.result (length flags)
    c.args.begins) (none_of c.args.times.high c.is_none.result c.is_none.ensures))
