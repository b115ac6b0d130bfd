-- Rows: the states that words reach, numbered in order of first mention. Each row is represented by its first word.
use Rattle.std.specs.Prelude.{◌≡◌, ℕ, List, [], ◌∷◌, ◌++◌, length, map, flat_map, Bool, true}
use Rattle.std.specs.List.{IsDistinct, list_all, position_or_len}
use Rattle.patterns.specs.CharSet.{is_scalar}
use Rattle.word_states.specs.Atom.{Atom, is_true}
use Rattle.word_states.specs.Mention.{mention_all}
use Rattle.word_states.specs.Classes.{class_firsts}
use Rattle.word_states.specs.WordState.{have_same_state}

-- the words with one more character, which is one of these, word by word
abbrev pub longer_by_one : List ℕ → List (List ℕ) → List (List ℕ)
longer_by_one cs ws = flat_map (λ w. map (λ c. w ++ c ∷ []) cs) ws

-- the words with another state than those before them, among the empty word and what the rows mention: each row's
-- word with one more character, the first of each class in order
abbrev pub AreRowsOver : List ℕ → List Atom → List (List ℕ) → Type 0
AreRowsOver cs atoms rows = rows ≡ mention_all (have_same_state atoms) [] ([] ∷ longer_by_one cs rows)

abbrev pub AreRows : List Atom → List (List ℕ) → Type 0
AreRows atoms = AreRowsOver (class_firsts atoms) atoms

-- the number of the row that a word leads to
abbrev pub row_of : List Atom → List (List ℕ) → List ℕ → ℕ
row_of atoms rows w = position_or_len (have_same_state atoms w) rows

-- the rows to which a word leads with one more character of each class
abbrev pub targets_of : List Atom → List (List ℕ) → List ℕ → List ℕ
targets_of atoms rows w = map (λ c. row_of atoms rows (w ++ c ∷ [])) (class_firsts atoms)

-- the truth of each atom
abbrev pub signature_of : List Atom → List ℕ → List Bool
signature_of atoms w = map (λ a. is_true a w) atoms

-- some n words have different states
abbrev pub HaveStates : List Atom → ℕ → Type 0
HaveStates atoms n =
    (ws : List (List ℕ)) × (length ws ≡ n) × (list_all (list_all is_scalar) ws ≡ true)
    × IsDistinct (have_same_state atoms) ws
