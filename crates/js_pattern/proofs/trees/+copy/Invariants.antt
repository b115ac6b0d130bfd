use Rattle.std.proofs.Common.{◌≡◌, map, take}
use Rattle.js_pattern.specs.View.{view}
use Rattle.js_pattern.proofs.trees.+copy.Given as goal

abbrev pub invariant-copy_list-loop-tree : goal.invariant-copy_list-loop-tree
invariant-copy_list-loop-tree l = map view l.made.items ≡ map view (take l.tree-index l.trees)
