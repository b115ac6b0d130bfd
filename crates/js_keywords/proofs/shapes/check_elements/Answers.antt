use Rattle.js_doc.specs.JsonView.{list_view}
use Rattle.js_keywords.specs.Failing.{passes}
use Rattle.js_keywords.specs.ValuePlaceView.{name_at, place_of}
use Rattle.js_keywords.proofs.ShapesLemmas.{list_fault-none, list_fault-some}
use Rattle.js_keywords.proofs.shapes.check_elements.Goals as goal

pub returns-in-None : goal.returns-in-None
returns-in-None c =
    let place = c.args.place.now in
    list_fault-none (passes c.args.test) (name_at place) (place_of place) (list_view c.args.items.now) _
    c.first_failing.ensures c.in-None.is

pub returns-in_ok-pointer-in-Some : goal.returns-in_ok-pointer-in-Some
returns-in_ok-pointer-in-Some c =
    let place = c.args.place.now in
    list_fault-some (passes c.args.test) (name_at place) (place_of place) _ (list_view c.args.items.now) _ _
    c.first_failing.ensures c.in-Some.is c.in_ok-pointer-in-Some.ensures
