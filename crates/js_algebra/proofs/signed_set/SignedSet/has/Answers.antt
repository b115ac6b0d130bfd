-- A member is where its number is.
use Rattle.std.proofs.Common.{nat_eq, ap, ◌∙◌}
use Rattle.std.specs.List.{list_any}
use Rattle.goals.specs.Signed.{has}
use Rattle.js_algebra.specs.View.{signed_view}
use Rattle.js_algebra.proofs.Numbered.{has-numbers}
use Rattle.js_algebra.proofs.signed_set.SignedSet.has.Goals as goal

pub returns : goal.returns
returns c =
    c.contains.ensures ∙ ap (λ n. list_any (nat_eq n) c.self.inside.numbers.keys) c.order.ensures.value
    ∙ has-numbers (signed_view c.args.x) c.self.inside.numbers.keys ∙ ap (has (signed_view c.args.x)) c.self.view_is
