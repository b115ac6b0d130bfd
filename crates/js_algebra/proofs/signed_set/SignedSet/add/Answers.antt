-- The number goes last, unless it is there.
use Rattle.std.proofs.Common.{map, nat_eq, ap, ◌∙◌}
use Rattle.indexmap.specs.IndexSet.{insert_key}
use Rattle.js_algebra.specs.View.{signed_view}
use Rattle.js_algebra.specs.Numbers.{signed_at}
use Rattle.js_algebra.specs.SignedSets.{with_member}
use Rattle.js_algebra.proofs.Numbered.{insert-with_member}
use Rattle.js_algebra.proofs.signed_set.SignedSet.add.Goals as goal

pub returns-clause-members : goal.returns-clause-members
returns-clause-members c =
    ap (map signed_at) (c.in_ok-insert.ensures.keys
    ∙ ap (λ n. insert_key nat_eq c.self.inside.numbers.keys n) c.order.ensures.value)
    ∙ insert-with_member (signed_view c.args.x) c.self.inside.numbers.keys
    ∙ ap (with_member (signed_view c.args.x)) c.self.view_is
