-- Trees of which each match begins at the start of the word.
use Rattle.std.specs.Prelude.{Bool, true, false}
use Rattle.patterns.specs.Tree.{Tree, Trees, empty, one_of, at_start, at_end, in_turn, either, repeated, no_trees, tree}

abbrev pub is_start : Tree → Bool
is_start empty = false
is_start (one_of s) = false
is_start at_start = true
is_start at_end = false
is_start (in_turn ts) = false
is_start (either ts) = false
is_start (repeated t low high) = false

abbrev pub first_is_start : Trees → Bool
first_is_start no_trees = false
first_is_start (tree t ts) = is_start t

-- the tree is a start of the word, or a row of trees that begins with one
abbrev pub is_anchored : Tree → Bool
is_anchored empty = false
is_anchored (one_of s) = false
is_anchored at_start = true
is_anchored at_end = false
is_anchored (in_turn ts) = first_is_start ts
is_anchored (either ts) = false
is_anchored (repeated t low high) = false
