use Rattle.std.proofs.Common.{[], map, drop, get_or}
use Rattle.documents.specs.Json.{items_of}
use Rattle.schemas.specs.Places.{elements_under}
use Rattle.js_doc.specs.JsonView.{view, list_view}
use Rattle.js_pointers.specs.PointersView.{pointers_of}
use Rattle.js_walk.specs.Visiting.{Adding}
use Rattle.js_walk.proofs.children.add_elements.Given as goal

abbrev pub invariant-loop-i : goal.invariant-loop-i
invariant-loop-i l =
    let place = get_or (pointers_of l.initial.pointers) l.fn.at [] in
    Adding (pointers_of l.initial.pointers) (pointers_of l.pointers) l.initial.found.items l.found.items
    (elements_under place l.i (items_of (map view (drop l.i l.items))))
    (elements_under place 0 (list_view l.fn.items))
