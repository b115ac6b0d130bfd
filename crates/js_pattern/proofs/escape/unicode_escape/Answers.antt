use Rattle.js_pattern.proofs.Within.{code_units-within}
use Rattle.js_pattern.proofs.escape.unicode_escape.Goals as goal

pub returns-clause-within : goal.returns-clause-within
returns-clause-within c =
    code_units-within c.code_unit.result c.low_surrogate.result c.args.text.now c.code_unit.ensures.taken
    (rw c.skip.ensures at c.low_surrogate.ensures.within) c.in-Some-hexadecimal.ensures.within
