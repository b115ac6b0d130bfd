-- The letters of lists of words, as sets.
use Rattle.std.specs.Prelude.{ℕ, List, [], Bool, nat_eq}
use Rattle.std.specs.List.{list_any}
use Rattle.word_states.specs.Atom.{Atom, Match, Words, LengthMin}
use Rattle.word_states.specs.Position.{sets_of}

-- the character is in one of the words
abbrev pub is_letter : List (List ℕ) → ℕ → Bool
is_letter ws c = list_any (list_any (nat_eq c)) ws

abbrev pub letters_of : Atom → List (List ℕ)
letters_of (Match t) = []
letters_of (Words ws) = ws
letters_of (LengthMin n) = []

-- the sets of the positions of a pattern
abbrev pub tree_sets : Atom → List (List (ℕ × ℕ))
tree_sets (Match t) = sets_of t
tree_sets (Words ws) = []
tree_sets (LengthMin n) = []
