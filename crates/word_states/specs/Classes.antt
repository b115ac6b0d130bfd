-- Classes of characters: the coarsest division such that no position's set and no letter of a listed word divides one.
use Rattle.std.specs.Prelude.{ℕ, List, [], ◌∷◌, length, map, flat_map, filter, Bool, true, ◌&&◌, nat_eq, get_or}
use Rattle.std.specs.Bool.{beq}
use Rattle.std.specs.List.{range_with_len, position_or_len}
use Rattle.patterns.specs.CharSet.{has, is_scalar, group_of}
use Rattle.word_states.specs.Position.{sets_of}
use Rattle.word_states.specs.Atom.{Atom, Match, Words, LengthMin}
use Rattle.word_states.specs.Mention.{mention_all}

-- the sets that an atom distinguishes from the rest: of each position of its pattern, or of each letter of its words
abbrev pub divider_sets : Atom → List (List (ℕ × ℕ))
divider_sets (Match t) = sets_of t
divider_sets (Words ws) = flat_map (map (λ c. (c, c) ∷ [])) ws
divider_sets (LengthMin n) = []

abbrev pub dividers : List Atom → List (List (ℕ × ℕ))
dividers = flat_map divider_sets

-- no set has one of the characters and lacks the other
abbrev pub are_alike : List (List (ℕ × ℕ)) → ℕ → ℕ → Bool
are_alike [] c d = true
are_alike (s ∷ ss) c d = beq (has s c) (has s d) && are_alike ss c d

-- the characters below n in the order in which words are made: by group, and within a group by number
unfoldable pub ordered_below : ℕ → List ℕ
ordered_below n =
    flat_map (λ g. filter (λ c. is_scalar c && nat_eq (group_of c) g) (range_with_len 0 n)) (0 ∷ 1 ∷ 2 ∷ 3 ∷ 4 ∷ [])

abbrev pub characters : List ℕ
characters = ordered_below 0x110000

-- the characters that are like none before them: the first of each class, and so the classes in their order
abbrev pub firsts_among : List ℕ → List (List (ℕ × ℕ)) → List ℕ
firsts_among cs sets = mention_all (are_alike sets) [] cs

abbrev pub class_firsts : List Atom → List ℕ
class_firsts atoms = firsts_among characters (dividers atoms)

abbrev pub class_count : List Atom → ℕ
class_count atoms = length (class_firsts atoms)

-- the number of a character's class
abbrev pub class_of : List Atom → ℕ → ℕ
class_of atoms c = position_or_len (are_alike (dividers atoms) c) (class_firsts atoms)

-- whether a character is in the class of that number
abbrev pub is_in_class : List Atom → ℕ → ℕ → Bool
is_in_class atoms k c = is_scalar c && are_alike (dividers atoms) (get_or (class_firsts atoms) k 0) c
