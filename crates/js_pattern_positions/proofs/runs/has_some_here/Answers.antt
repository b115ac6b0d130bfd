use Rattle.state_laws.specs.Flow.{flag_at}
use Rattle.js_pattern_positions.proofs.CopiesLemmas.{some_in-bits}
use Rattle.js_pattern_positions.proofs.runs.has_some_here.Goals as goal

pub returns : goal.returns
returns c =
    some_in-bits (flag_at c.args.set.now.flags) c.args.count c.args.from c.bits.result c.bits.ensures.bits
    c.bits.ensures.small
