use Rattle.std.proofs.Common.{◌≡◌, map, drop}
use Rattle.documents.specs.Json.{items_of, members_of}
use Rattle.schemas.specs.Fault.{not_whole_among, not_whole_in}
use Rattle.js_doc.specs.JsonView.{view, member_view}
use Rattle.js_keywords.proofs.whole.+find.Given as goal

abbrev pub invariant-find_among-loop-i : goal.invariant-find_among-loop-i
invariant-find_among-loop-i l =
    (l.place ≡ l.fn.place)
    × (not_whole_among l.fn.place l.i (items_of (map view (drop l.i l.items)))
    ≡ not_whole_among l.fn.place 0 (items_of (map view l.items)))

abbrev pub invariant-find_in-loop-member : goal.invariant-find_in-loop-member
invariant-find_in-loop-member l =
    (l.place ≡ l.fn.place)
    × (not_whole_in l.fn.place (members_of (map member_view (drop l.member-index l.members)))
    ≡ not_whole_in l.fn.place (members_of (map member_view l.members)))
