-- So far elements and members are the same.
use Rattle.std.proofs.Common.{◌≡◌, ◌+◌, ◌*◌, map, drop}
use Rattle.documents.specs.Document.{depth, items_depth, members_depth, items_of, members_of}
use Rattle.documents.specs.Measures.{same_items, same_members}
use Rattle.shared_documents.specs.Unshared.{unshared}
use Rattle.js_doc.specs.View.{view, list_view, map_view, member_view}
use Rattle.js_valid.proofs.same.+same.Given as goal

abbrev pub decreases-is_part : goal.decreases-is_part
decreases-is_part l = 4 * depth (view l.doc.now) + 2

abbrev pub decreases-is_built : goal.decreases-is_built
decreases-is_built l = 4 * depth (view l.doc.now) + 1

abbrev pub decreases-are_parts : goal.decreases-are_parts
decreases-are_parts l = 4 * items_depth (list_view l.list.now) + 4

abbrev pub decreases-are_members : goal.decreases-are_members
decreases-are_members l = 4 * members_depth (map_view l.members.now) + 4

abbrev pub decreases-is_member : goal.decreases-is_member
decreases-is_member l = 4 * depth (member_view l.member.now).1 + 3

abbrev pub invariant-are_parts-loop-i : goal.invariant-are_parts-loop-i
invariant-are_parts-loop-i l =
    same_items (items_of (map view (drop l.i l.docs))) (items_of (map (λ i. unshared l.parts i.0) (drop l.i l.numbers)))
    ≡ same_items (items_of (map view l.docs)) (items_of (map (λ i. unshared l.parts i.0) l.numbers))

abbrev pub invariant-are_members-loop-i : goal.invariant-are_members-loop-i
invariant-are_members-loop-i l =
    same_members (members_of (map member_view (drop l.i l.docs)))
    (members_of (map (λ m. (m.name, unshared l.parts m.part.0)) (drop l.i l.others)))
    ≡ same_members (members_of (map member_view l.docs))
    (members_of (map (λ m. (m.name, unshared l.parts m.part.0)) l.others))
