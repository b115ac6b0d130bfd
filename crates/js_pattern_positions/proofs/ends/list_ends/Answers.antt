use Rattle.std.proofs.Common.{◌∙◌, sym, ap, true}
use Rattle.state_laws.specs.Flow.{flag_at, ends_here_in_turn}
use Rattle.js_pattern_positions.proofs.Items.{rest}
use Rattle.js_pattern_positions.proofs.Quiet.{ends_in_turn-quiet}
use Rattle.js_pattern_positions.proofs.ends.list_ends.Goals as goal

pub returns-then-not-here : goal.returns-then-not-here
returns-then-not-here c =
    let first = c.args.edges.first in
    let last = c.args.edges.last in
    let read = flag_at c.args.read.now.flags in
    let left = rest c.as_slice-re-items.result.now c.loop-re.re-index in
    sym (ap (ends_here_in_turn left first last read c.loop-re.at) c.if-not-here.true
    ∙ ends_in_turn-quiet first read last left c.loop-re.at (c.has_none_from.ensures c.if-has_none_from.true))
    ∙ c.loop-re.invariant.ends
    ∙ ap (λ ts. ends_here_in_turn ts first last read 0 true) c.as_slice-re-items.ensures.view
