use Rattle.std.proofs.Common.{◌≡◌, drop, map}
use Rattle.patterns.specs.Tree.{trees_of}
use Rattle.js_pattern.specs.Fingerprint.{trees_from}
use Rattle.js_pattern.specs.View.{view, list_view}
use Rattle.js_pattern.proofs.trees.+fingerprint.Given as goal

abbrev pub invariant-list_print-loop-tree : goal.invariant-list_print-loop-tree
invariant-list_print-loop-tree l =
    trees_from l.print (trees_of (map view (drop l.tree-index l.tree-items))) ≡ trees_from l.fn.start (list_view l.fn.list)
