use Rattle.std.proofs.Common.{[], ◌∷◌, ◌++◌}
use Rattle.schemas.specs.Keyword.{is_string}
use Rattle.js_doc.specs.JsonView.{list_view}
use Rattle.js_keywords.specs.ValuePlaceView.{name_at, place_of}
use Rattle.js_keywords.proofs.ShapesLemmas.{list_fault-none, list_fault-some}
use Rattle.js_keywords.proofs.shapes.check_need_words.Goals as goal

pub returns-in-None : goal.returns-in-None
returns-in-None c =
    let place = c.args.place.now in
    list_fault-none is_string (name_at place) (place_of place ++ c.args.name.now ∷ []) (list_view c.args.words.now) _
    c.first_failing.ensures c.in-None.is

pub returns-in_ok-pointer-in-Some : goal.returns-in_ok-pointer-in-Some
returns-in_ok-pointer-in-Some c =
    let place = c.args.place.now in
    list_fault-some is_string (name_at place) (place_of place ++ c.args.name.now ∷ []) _ (list_view c.args.words.now)
    _ _ c.first_failing.ensures c.in-Some.is c.in_ok-pointer-in-Some.ensures
