use Rattle.std.proofs.Common.{◌≡◌, ◌++◌, map, drop}
use Rattle.documents.specs.Json.{items_of}
use Rattle.js_doc.specs.JsonView.{view, list_view}
use Rattle.js_reader.specs.Links.{element_numbers}
use Rattle.js_reader.specs.KeywordPlaceView.{places_about, at}
use Rattle.js_reader.proofs.links.elements.Given as goal

abbrev pub invariant-loop-i : goal.invariant-loop-i
invariant-loop-i l =
    l.made.items ++ element_numbers (places_about l.place) (at l.place) l.i
    (items_of (map view (drop l.i l.items)))
    ≡ element_numbers (places_about l.place) (at l.place) 0 (list_view l.fn.items)
