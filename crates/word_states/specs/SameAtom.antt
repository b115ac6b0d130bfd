-- When two atoms are the same, as a test.
use Rattle.std.specs.Prelude.{Bool, false, nat_eq}
use Rattle.std.specs.Cmp.Lexicographic.{pointwise}
use Rattle.patterns.specs.SameTree.{same_tree}
use Rattle.word_states.specs.Atom.{Atom, Match, Words, LengthMin}

-- patterns by their trees, so that texts of one tree are one atom; lists word by word
abbrev pub same_atom : Atom → Atom → Bool
same_atom (Match t) (Match u) = same_tree t u
same_atom (Words vs) (Words ws) = pointwise (pointwise nat_eq) vs ws
same_atom (LengthMin m) (LengthMin n) = nat_eq m n
same_atom _ _ = false
