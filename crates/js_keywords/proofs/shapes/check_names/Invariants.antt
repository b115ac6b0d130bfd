use Rattle.std.proofs.Common.{◌≡◌, map, drop}
use Rattle.documents.specs.Json.{members_of}
use Rattle.schemas.specs.Fault.{names_fault}
use Rattle.js_doc.specs.JsonView.{member_view, map_view}
use Rattle.js_keywords.specs.Reading.{rules}
use Rattle.js_keywords.specs.ValuePlaceView.{place_of}
use Rattle.js_keywords.proofs.shapes.check_names.Given as goal

abbrev pub invariant-loop-member : goal.invariant-loop-member
invariant-loop-member l =
    names_fault rules (place_of l.place) (members_of (map member_view (drop l.member-index l.member-items)))
    ≡ names_fault rules (place_of l.fn.place) (map_view l.fn.members)
