use Rattle.std.proofs.Common.{◌≡◌, ◌+◌, ◌*◌, map, take}
use Rattle.js_doc.specs.declared.document.Doc.{size-Doc}
use Rattle.js_doc.specs.View.{view, member_view}
use Rattle.js_doc.proofs.equality.+equal.Given as goal

abbrev pub invariant-equal_lists-loop-i : goal.invariant-equal_lists-loop-i
invariant-equal_lists-loop-i l = map view (take l.i l.xs) ≡ map view (take l.i l.ys)

abbrev pub invariant-equal_maps-loop-i : goal.invariant-equal_maps-loop-i
invariant-equal_maps-loop-i l = map member_view (take l.i l.xs) ≡ map member_view (take l.i l.ys)

abbrev pub decreases-equal : goal.decreases-equal
decreases-equal l = 2 * goal.size-equal l

abbrev pub decreases-equal_lists : goal.decreases-equal_lists
decreases-equal_lists l = 2 * goal.size-equal_lists l

abbrev pub decreases-equal_maps : goal.decreases-equal_maps
decreases-equal_maps l = 2 * goal.size-equal_maps l

abbrev pub decreases-equal_members : goal.decreases-equal_members
decreases-equal_members l = 2 * size-Doc l.a.now.value + 1
