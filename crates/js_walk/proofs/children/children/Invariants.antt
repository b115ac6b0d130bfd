use Rattle.std.proofs.Common.{[], map, drop, get_or}
use Rattle.documents.specs.Json.{members_of}
use Rattle.js_doc.specs.JsonView.{member_view, map_view}
use Rattle.js_pointers.specs.PointersView.{pointers_of}
use Rattle.js_walk.specs.Holding.{members_held}
use Rattle.js_walk.specs.Visiting.{Adding}
use Rattle.js_walk.proofs.children.children.Given as goal

abbrev pub invariant-loop-member : goal.invariant-loop-member
invariant-loop-member l =
    let place = get_or (pointers_of l.initial.pointers) l.fn.place [] in
    Adding (pointers_of l.initial.pointers) (pointers_of l.pointers) [] l.found.items
    (members_held l.listed place (members_of (map member_view (drop l.member-index l.member-items))))
    (members_held l.fn.listed place (map_view l.fn.members))
