-- The position in the list, or the rest.
use Rattle.std.proofs.Common.{length, sym}
use Rattle.std.proofs.lemmas.Bool.{ltb-true, ltb-false}
use Rattle.js_elements.proofs.Asking.{item-within, item-past}
use Rattle.js_elements.proofs.elements.item_at.Goals as goal

pub returns-in-Some : goal.returns-in-Some
returns-in-Some c =
    item-within c.args.first.now c.args.rest.0 c.args.index c.in-Some.p.now
    (ltb-true c.args.index (length c.args.first.now) (sym c.in-Some.ensures.lookup.0)) c.in-Some.ensures.lookup.1

pub returns-in-None : goal.returns-in-None
returns-in-None c =
    item-past c.args.first.now c.args.rest.0 c.args.index
    (ltb-false c.args.index (length c.args.first.now) (sym c.in-None.ensures.lookup.0))
