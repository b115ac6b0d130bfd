-- The state of a word: what has to be kept of it, so that the truth of every atom is known of it and of every longer
-- word.
use Rattle.std.specs.Prelude.{ℕ, min, max, List, [], ◌∷◌, length, map, filter, Option, Some, None, Bool, true, false, ◌&&◌, nat_eq}
use Rattle.std.specs.Bool.{beq}
use Rattle.std.specs.Cmp.Lexicographic.{pointwise}
use Rattle.patterns.specs.Decision.{is_empty}
use Rattle.word_states.specs.Atom.{Atom, Match, Words, LengthMin, same_word}
use Rattle.word_states.specs.PatternState.{PatternState, done, reading, pattern_state}

-- the word is the beginning of another, or all of it
abbrev pub is_prefix : List ℕ → List ℕ → Bool
is_prefix [] w = true
is_prefix (c ∷ v) [] = false
is_prefix (c ∷ v) (d ∷ w) = nat_eq c d && is_prefix v w

-- what is kept for one atom
pub data AtomState : Type 0 where
  -- of a pattern: that it is found, or the positions read last
  matching : PatternState → AtomState
  -- of a list of words: those that the word is a prefix of, and the word's length where there are any
  beginning : List (List ℕ) → Option ℕ → AtomState
  -- of a least length: nothing, since the word's length is kept once for all of them
  counting : AtomState

abbrev pub begun : List (List ℕ) → List ℕ → AtomState
begun [] w = beginning [] None
begun (v ∷ vs) w = beginning (v ∷ vs) (Some (length w))

abbrev pub atom_state : List ℕ → Atom → AtomState
atom_state w (Match t) = matching (pattern_state t w)
atom_state w (Words ws) = begun (filter (is_prefix w) ws) w
atom_state w (LengthMin n) = counting

abbrev pub least_length : Atom → ℕ
least_length (Match t) = 0
least_length (Words ws) = 0
least_length (LengthMin n) = n

-- the greatest of the least lengths that are required: no greater length has to be distinguished
abbrev pub greatest_least : List Atom → ℕ
greatest_least [] = 0
greatest_least (a ∷ atoms) = max (least_length a) (greatest_least atoms)

pub record WordState : Type 0 where
  pub is_empty : Bool
  pub parts : List AtomState
  pub length : ℕ

abbrev pub word_state : List Atom → List ℕ → WordState
word_state atoms w = record {
  is_empty = is_empty w;
  parts = map (atom_state w) atoms;
  length = min (length w) (greatest_least atoms);
}

-- the tests of states
abbrev pub same_pattern_state : PatternState → PatternState → Bool
same_pattern_state done done = true
same_pattern_state (reading ps) (reading qs) = pointwise nat_eq ps qs
same_pattern_state _ _ = false

abbrev pub same_length : Option ℕ → Option ℕ → Bool
same_length None None = true
same_length (Some m) (Some n) = nat_eq m n
same_length _ _ = false

abbrev pub same_atom_state : AtomState → AtomState → Bool
same_atom_state (matching x) (matching y) = same_pattern_state x y
same_atom_state (beginning vs m) (beginning ws n) = pointwise same_word vs ws && same_length m n
same_atom_state counting counting = true
same_atom_state _ _ = false

abbrev pub same_state : WordState → WordState → Bool
same_state x y = beq x.is_empty y.is_empty && pointwise same_atom_state x.parts y.parts && nat_eq x.length y.length

-- two words have one state
abbrev pub have_same_state : List Atom → List ℕ → List ℕ → Bool
have_same_state atoms v w = same_state (word_state atoms v) (word_state atoms w)
