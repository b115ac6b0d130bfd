use Rattle.std.proofs.Common.{◌&&◌, ◌||◌, ◌∙◌, nat_le, false, length, ap}
use Rattle.state_laws.specs.Flow.{flag_at}
use Rattle.js_pattern_positions.specs.Walk.{some_in}
use Rattle.js_pattern_positions.proofs.OptionsLemmas.{options-ends, options-reads_some, options-reads_none}
use Rattle.js_pattern_positions.proofs.reads_next.advance_options.Goals as goal

pub returns-then-has-clause-ends : goal.returns-then-has-clause-ends
returns-then-has-clause-ends c = λ t character first set.
    let read = flag_at c.args.read.now.flags in
    c.may_end-ends.ensures
    ∙ ap (λ x. nat_le c.args.low c.args.high && (c.args.begins || x))
    (c.has_some.ensures ∙ ap (some_in read c.args.high) c.len.ensures)
    ∙ options-ends t character c.args.has set first read c.args.low c.args.high false (length c.args.reads.now.flags)
    c.args.begins

pub returns-then-has-clause-flags : goal.returns-then-has-clause-flags
returns-then-has-clause-flags c = λ t character first set.
    options-reads_some t character c.args.has set first (flag_at c.args.read.now.flags) c.args.low c.args.high
    c.args.reads.now.flags c.push_options.new.reads.flags c.args.begins c.if-has.true c.push_options.ensures.flags

pub returns-clause-ends : goal.returns-clause-ends
returns-clause-ends c = λ t character first set.
    let read = flag_at c.args.read.now.flags in
    c.may_end-ends.ensures
    ∙ ap (λ x. nat_le c.args.low c.args.high && (c.args.begins || x))
    (c.has_some.ensures ∙ ap (some_in read c.args.high) c.len.ensures)
    ∙ options-ends t character c.args.has set first read c.args.low c.args.high false (length c.args.reads.now.flags)
    c.args.begins

pub returns-clause-flags : goal.returns-clause-flags
returns-clause-flags c = λ t character first set.
    options-reads_none t character c.args.has set first (flag_at c.args.read.now.flags) c.args.low c.args.high
    c.args.reads.now.flags c.push_none.new.self.flags c.args.begins c.if-has.false c.push_none.ensures.flags
