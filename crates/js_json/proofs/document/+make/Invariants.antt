use Rattle.std.proofs.Common.{◌≡◌, map, take, drop}
use Rattle.documents.specs.Json.{items_of, members_of}
use Rattle.js_doc.specs.View as V
use Rattle.js_doc.specs.JsonView.{view, member_view}
use Rattle.js_json.specs.Documents.{json_of_document, places_in_items, places_in_members}
use Rattle.js_json.proofs.DocumentsLemmas.{json_of_member}
use Rattle.js_json.proofs.document.+make.Given as goal

abbrev pub invariant-make_items-loop-i : goal.invariant-make_items-loop-i
invariant-make_items-loop-i l =
    (map (λ d. json_of_document (V.view d)) l.made.items ≡ map view (take l.i l.items))
    × (places_in_items l.i (items_of (map view (drop l.i l.items))) ≡ places_in_items 0 (items_of (map view l.items)))

abbrev pub invariant-make_members-loop-member : goal.invariant-make_members-loop-member
invariant-make_members-loop-member l =
    (map json_of_member l.made.items ≡ map member_view (take l.member-index l.members))
    × (places_in_members (members_of (map member_view (drop l.member-index l.members)))
    ≡ places_in_members (members_of (map member_view l.members)))
