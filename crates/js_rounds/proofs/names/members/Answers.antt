-- The words that runs need are those of the branch, so the members are.
use Rattle.std.proofs.Common.{◌≡◌, true, map, ap, sym, ◌∙◌, subst}
use Rattle.documents.specs.Tests.{same_word}
use Rattle.alternatives.specs.Slots.{word_at, are_different}
use Rattle.search.specs.Witness as W
use Rattle.js_algebra.specs.View.{kind_view}
use Rattle.js_rounds.specs.Spread.{spread}
use Rattle.js_rounds.specs.Slots.{place_at}
use Rattle.js_rounds.proofs.Needs.{named_same}
use Rattle.js_rounds.proofs.names.members.Goals as goal

pub in_order-requires : goal.in_order-requires
in_order-requires g c =
    let cells = g.E.Expander.cells c.args.expander.now c.args.goal.now (kind_view c.args.branch.kind)
    c.args.branch.number in
    let made = c.in_ok-members.ensures
    ∙ ap (λ l. map (W.named (word_at l) (place_at c.args.places.now)) (spread c.args.runs.now)) c.deref.ensures.value
    ∙ named_same cells c.in_ok-lists.lists.items c.args.runs.now c.in_ok-lists.ensures (place_at c.args.places.now) in
    subst (λ ms. are_different same_word (map (λ m. m.0) ms) ≡ true) (sym made) c.requires.differ

pub returns : goal.returns
returns g c =
    let cells = g.E.Expander.cells c.args.expander.now c.args.goal.now (kind_view c.args.branch.kind)
    c.args.branch.number in
    let made = c.in_ok-members.ensures
    ∙ ap (λ l. map (W.named (word_at l) (place_at c.args.places.now)) (spread c.args.runs.now)) c.deref.ensures.value
    ∙ named_same cells c.in_ok-lists.lists.items c.args.runs.now c.in_ok-lists.ensures (place_at c.args.places.now) in
    c.from_vec.ensures ∙ c.in_order.ensures.sorted ∙ ap W.sorted made
