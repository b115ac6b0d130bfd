use Rattle.std.proofs.Common.{◌≡◌, ◌≤◌, ◌+◌, ◌*◌, drop, length}
use Rattle.std.specs.Cmp.Lexicographic.{slice_cmp}
use Rattle.js_doc.specs.declared.document.Doc.{size-Doc}
use Rattle.js_doc.specs.View.{view, member_view}
use Rattle.js_valid.specs.DocumentOrder.{document_cmp, named_cmp}
use Rattle.js_valid.proofs.comparison.+compare.Given as goal

abbrev pub decreases-compare : goal.decreases-compare
decreases-compare l = 2 * goal.size-compare l

abbrev pub decreases-compare_lists : goal.decreases-compare_lists
decreases-compare_lists l = 2 * goal.size-compare_lists l

abbrev pub decreases-compare_maps : goal.decreases-compare_maps
decreases-compare_maps l = 2 * goal.size-compare_maps l

abbrev pub decreases-compare_members : goal.decreases-compare_members
decreases-compare_members l = 2 * size-Doc l.a.now.value + 1

abbrev pub invariant-compare_lists-loop-i : goal.invariant-compare_lists-loop-i
invariant-compare_lists-loop-i l =
    (l.i ≤ length l.xs)
    × (slice_cmp (λ x y. document_cmp (view x) (view y)) (drop l.i l.xs) (drop l.i l.ys)
    ≡ slice_cmp (λ x y. document_cmp (view x) (view y)) l.xs l.ys)

abbrev pub invariant-compare_maps-loop-i : goal.invariant-compare_maps-loop-i
invariant-compare_maps-loop-i l =
    (l.i ≤ length l.xs)
    × (slice_cmp (λ x y. named_cmp (member_view x) (member_view y)) (drop l.i l.xs) (drop l.i l.ys)
    ≡ slice_cmp (λ x y. named_cmp (member_view x) (member_view y)) l.xs l.ys)
