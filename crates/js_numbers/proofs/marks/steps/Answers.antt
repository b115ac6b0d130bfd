use Rattle.std.proofs.Common.{arith}
use Rattle.js_numbers.specs.declared.candidates.TheConstants.{MOST_STRUCK}
use Rattle.js_numbers.proofs.MarkLaws.{steps_found, steps_none}
use Rattle.js_numbers.proofs.marks.steps.Goals as goal

pub returns-then-distance-m-ne0-clause-value : goal.returns-then-distance-m-ne0-clause-value
returns-then-distance-m-ne0-clause-value c = λ k l.
    steps_none c.args.distance c.args.m k MOST_STRUCK c.requires (λ e. absurd (omega arith)) l

pub returns-then-count-clause-value : goal.returns-then-count-clause-value
returns-then-count-clause-value c = λ k l. steps_found c.args.distance c.args.m k c.requires
    (omega arith)

pub returns-else-count-clause-value : goal.returns-else-count-clause-value
returns-else-count-clause-value c =
    λ k l. steps_none c.args.distance c.args.m k MOST_STRUCK c.requires (λ e. omega arith) l
