-- A new member waits.
use Rattle.std.proofs.Common.{map, sym, subst}
use Rattle.js_algebra.specs.View.{signed_view}
use Rattle.js_algebra.specs.SignedSets.{with_member}
use Rattle.js_tableau.specs.Walks.{Covers}
use Rattle.js_tableau.proofs.Covering.{covers-add}
use Rattle.js_tableau.proofs.walk.Walk.add.Goals as goal

pub returns-clause-covered : goal.returns-clause-covered
returns-clause-covered c = λ h.
    subst (λ xs. Covers xs c.add.new.self (map signed_view c.args.self.now.settled.items))
    (sym c.in_ok-add-2.ensures.members)
    (subst (λ ws. Covers (with_member (signed_view c.args.x) c.args.self.now.trail) ws
    (map signed_view c.args.self.now.settled.items)) (sym c.in_ok-add.ensures)
    (covers-add (signed_view c.args.x) c.args.self.now.trail c.args.self.now.waiting _ h))
