use Rattle.std.proofs.Common.{◌≡◌, map, drop}
use Rattle.documents.specs.Json.{members_of}
use Rattle.js_doc.specs.JsonView.{member_view, map_view}
use Rattle.js_walk.specs.FileView.{root_of}
use Rattle.js_walk.specs.Visiting.{members_fault_by}
use Rattle.js_walk.proofs.visit.check_all.Given as goal

abbrev pub invariant-loop-member : goal.invariant-loop-member
invariant-loop-member l =
    members_fault_by (root_of l.file) l.object.listed l.object.pointer.now
    (members_of (map member_view (drop l.member-index l.member-items)))
    ≡ members_fault_by (root_of l.fn.file) l.fn.object.listed l.fn.object.pointer.now (map_view l.fn.members)
