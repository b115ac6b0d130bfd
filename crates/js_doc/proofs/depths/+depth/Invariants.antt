use Rattle.std.proofs.Common.{◌≡◌, map, drop, max}
use Rattle.documents.specs.Document.{items_depth, members_depth, items_of, members_of}
use Rattle.js_doc.specs.View.{view, member_view, capped}
use Rattle.js_doc.proofs.depths.+depth.Given as goal

abbrev pub invariant-list_depth-loop-doc : goal.invariant-list_depth-loop-doc
invariant-list_depth-loop-doc l =
    max l.deepest (capped (items_depth (items_of (map view (drop l.doc-index l.doc-items)))))
    ≡ capped (items_depth (items_of (map view l.doc-items)))

abbrev pub invariant-members_depth-loop-member : goal.invariant-members_depth-loop-member
invariant-members_depth-loop-member l =
    max l.deepest (capped (members_depth (members_of (map member_view (drop l.member-index l.member-items)))))
    ≡ capped (members_depth (members_of (map member_view l.member-items)))
