use Rattle.std.proofs.Common.{◌≡◌, ◌<◌, length, nat_lt, true, rules, tests, sym, ap, subst, ◌∙◌}
use Rattle.std.proofs.lemmas.Iterator.{YieldsList-from_slice}
use Rattle.std.proofs.lemmas.Iterator.Adapters.{serves_from_places}
use Rattle.std.proofs.lemmas.Iterator.Search.{all_from_yields_List}
use Rattle.documents.specs.Tests.{every}
use Rattle.name_laws.specs.Rooms.{truth_at}
use Rattle.list_laws.proofs.Tests.{list_all-every}
use Rattle.js_algebra.specs.declared.node.Pos.{Pos}
use Rattle.js_algebra.specs.View.{places}
use Rattle.js_tableau.proofs.Places.{inside-at}
use Rattle.js_tableau.proofs.name_room.are_held.Goals as goal

-- each position is in the room
pub all-requires-clause-callable : goal.all-requires-clause-callable
all-requires-clause-callable c =
    let n = length c.args.room.now in
    let within = subst (λ l. every (λ q. nat_lt q n) (places l) ≡ true) (sym c.as_slice.ensures) c.requires in
    serves_from_places (YieldsList-from_slice _ c.iter.ensures.rest) (λ q f h. search (rules, tests))
    (λ q k l e.
    let low : q.now.0 < n =
    subst (λ (p : Pos). p.0 < n) (sym e) (inside-at (λ (p : Pos). p.0) n c.as_slice.result.now k q.now within l) in
    search (rules, low))

pub returns : goal.returns
returns c =
    let room = c.args.room.now in
    all_from_yields_List (λ q. truth_at room q.0) _ _ c.all.result c.all.ensures.ran
    (YieldsList-from_slice _ c.iter.ensures.rest) (λ q b f h. search (rules, tests))
    ∙ list_all-every (truth_at room) (λ q. q.0) c.as_slice.result.now
    ∙ ap (λ l. every (truth_at room) (places l)) c.as_slice.ensures
