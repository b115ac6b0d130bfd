-- So far elements and members are the same.
use Rattle.std.proofs.Common.{◌≡◌, ◌≤◌, ◌+◌, ◌*◌, length, drop}
use Rattle.std.specs.Cmp.Lexicographic.{slice_cmp}
use Rattle.documents.specs.Document.{depth, items_depth, members_depth}
use Rattle.shared_documents.specs.Unshared.{unshared}
use Rattle.js_doc.specs.View.{view, list_view, map_view, member_view}
use Rattle.js_valid.specs.DocumentOrder.{document_cmp, named_cmp}
use Rattle.js_valid.proofs.part_comparison.+compare_part.Given as goal

abbrev pub decreases-compare_part : goal.decreases-compare_part
decreases-compare_part l = 4 * depth (view l.doc.now) + 2

abbrev pub decreases-compare_built : goal.decreases-compare_built
decreases-compare_built l = 4 * depth (view l.doc.now) + 1

abbrev pub decreases-compare_elements : goal.decreases-compare_elements
decreases-compare_elements l = 4 * items_depth (list_view l.list.now) + 4

abbrev pub decreases-compare_named : goal.decreases-compare_named
decreases-compare_named l = 4 * members_depth (map_view l.members.now) + 4

abbrev pub decreases-compare_member : goal.decreases-compare_member
decreases-compare_member l = 4 * depth (member_view l.member.now).1 + 3

abbrev pub invariant-compare_elements-loop-i : goal.invariant-compare_elements-loop-i
invariant-compare_elements-loop-i l =
    (l.i ≤ length l.docs)
    × (slice_cmp (λ x y. document_cmp (view x) (unshared l.parts y.0)) (drop l.i l.docs) (drop l.i l.numbers)
    ≡ slice_cmp (λ x y. document_cmp (view x) (unshared l.parts y.0)) l.docs l.numbers)

abbrev pub invariant-compare_named-loop-i : goal.invariant-compare_named-loop-i
invariant-compare_named-loop-i l =
    (l.i ≤ length l.docs)
    × (slice_cmp (λ x y. named_cmp (member_view x) (y.name, unshared l.parts y.part.0)) (drop l.i l.docs)
    (drop l.i l.others)
    ≡ slice_cmp (λ x y. named_cmp (member_view x) (y.name, unshared l.parts y.part.0)) l.docs l.others)
