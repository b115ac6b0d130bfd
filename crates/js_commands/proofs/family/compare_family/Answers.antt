use Rattle.std.proofs.Common.{IfOk, subst}
use Rattle.js_commands.specs.GenSaying.{ValuesSay}
use Rattle.js_commands.proofs.family.compare_family.Goals as goal

pub returns : goal.returns
returns g c =
    subst (λ p. IfOk c.compare_values.result (ValuesSay p.0 p.1)) c.in_ok-first.ensures c.compare_values.ensures
