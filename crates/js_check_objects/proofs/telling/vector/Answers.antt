use Rattle.std.proofs.Common.{sym, subst}
use Rattle.list_laws.specs.In.{IsIn}
use Rattle.list_laws.proofs.Lists.{get_or-in}
use Rattle.js_check_objects.proofs.telling.vector.Goals as goal

pub truth-requires-clause-said : goal.truth-requires-clause-said
truth-requires-clause-said c =
    c.requires.said c.s-item.result
    (subst (λ z. IsIn z c.args.said.now) (sym c.s-item.is)
    (get_or-in c.args.said.now c.loop-s.s-index c.s-item.result c.loop-s-test.true))
