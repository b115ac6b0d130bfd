-- The characters of which a word must begin with one, where a tree can say.
use Rattle.std.specs.Prelude.{ℕ, zero, suc, List, Option, Some, None}
use Rattle.patterns.specs.Tree.{Tree, Trees, empty, one_of, at_start, at_end, in_turn, either, repeated, no_trees, tree}

abbrev pub lone_set : Tree → Option (List (ℕ × ℕ))
lone_set empty = None
lone_set (one_of s) = Some s
lone_set at_start = None
lone_set at_end = None
lone_set (in_turn ts) = None
lone_set (either ts) = None
lone_set (repeated t low high) = None

abbrev pub lone_set_of : ℕ → Tree → Option (List (ℕ × ℕ))
lone_set_of zero t = None
lone_set_of (suc n) t = lone_set t

-- each match of the tree begins with one of the characters
abbrev pub first_set : Tree → Option (List (ℕ × ℕ))
first_set empty = None
first_set (one_of s) = Some s
first_set at_start = None
first_set at_end = None
first_set (in_turn ts) = None
first_set (either ts) = None
first_set (repeated t low high) = lone_set_of low t

abbrev pub set_after : Tree → Trees → Option (List (ℕ × ℕ))
set_after empty ts = None
set_after (one_of s) ts = None
set_after at_start no_trees = None
set_after at_start (tree t ts) = first_set t
set_after at_end ts = None
set_after (in_turn us) ts = None
set_after (either us) ts = None
set_after (repeated t low high) ts = None

abbrev pub set_in_turn : Trees → Option (List (ℕ × ℕ))
set_in_turn no_trees = None
set_in_turn (tree t ts) = set_after t ts

-- each word in which the tree is found begins with one of the characters
abbrev pub needed_set : Tree → Option (List (ℕ × ℕ))
needed_set empty = None
needed_set (one_of s) = None
needed_set at_start = None
needed_set at_end = None
needed_set (in_turn ts) = set_in_turn ts
needed_set (either ts) = None
needed_set (repeated t low high) = None
