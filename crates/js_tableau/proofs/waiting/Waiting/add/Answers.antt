-- The number goes to its place in the order.
use Rattle.std.proofs.Common.{◌≡◌, map, true, sym, ◌∙◌, ap, subst}
use Rattle.std.specs.Ordering.{nat_cmp}
use Rattle.std.specs.BTreeSet.{insert_key}
use Rattle.goals.specs.Signed.{add}
use Rattle.js_algebra.specs.View.{signed_view}
use Rattle.js_algebra.specs.Numbers.{signed_at, are_numbers}
use Rattle.js_tableau.proofs.Kept.{insert-add, numbers-insert}
use Rattle.js_tableau.proofs.waiting.Waiting.add.Goals as goal

pub invariant_of-self-2 : goal.invariant_of-self-2
invariant_of-self-2 c =
    subst (λ ks. are_numbers ks ≡ true) (sym c.in_ok-insert.ensures.keys)
    (numbers-insert c.order.result c.self.inside.numbers.keys c.order.ensures.bound c.self.invariant)

pub returns : goal.returns
returns c =
    ap (map signed_at) (c.in_ok-insert.ensures.keys
    ∙ ap (λ n. insert_key nat_cmp c.self.inside.numbers.keys n) c.order.ensures.value)
    ∙ insert-add (signed_view c.args.x) c.self.inside.numbers.keys ∙ ap (add (signed_view c.args.x)) c.self.view_is
