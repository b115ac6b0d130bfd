use Rattle.std.proofs.Common.{length, nat_lt, sym}
use Rattle.std.proofs.lemmas.Bool.{ltb-true}
use Rattle.js_walk.specs.PlacesView.{pointers_in}
use Rattle.js_walk.proofs.places.Places.place.Goals as goal
use Rattle.list_laws.proofs.Tests.{every_slice}

pub returns-clause-pointer : goal.returns-clause-pointer
returns-clause-pointer c =
    let places = c.args.self.now in
    ltb-true _ (length (pointers_in places))
    (every_slice (λ e. nat_lt e.0 (length (pointers_in places))) places.done c.args.number
    c.entry.result.now places.within (sym c.entry.ensures))
