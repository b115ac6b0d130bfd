use Rattle.std.proofs.Common.{◌≡◌, map, take}
use Rattle.documents.specs.Document.{null}
use Rattle.js_doc.specs.View.{member_view}
use Rattle.js_valid.proofs.part_frame.members_frame.Given as goal

abbrev pub invariant-loop-member : goal.invariant-loop-member
invariant-loop-member l = map member_view l.made.items ≡ map (λ m. (m.name, null)) (take l.member-index l.parts)
