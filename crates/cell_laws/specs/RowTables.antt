-- Tables of words, one for each row, whose targets have the states that the step gives: the rows of an automaton, and
-- the rows that a checker took.
use Rattle.std.specs.Prelude.{◌≡◌, ℕ, ◌<◌, List, [], ◌∷◌, ◌++◌, length, get_or, true}
use Rattle.word_states.specs.Atom.{Atom}
use Rattle.word_states.specs.Classes.{class_firsts, class_count}
use Rattle.word_states.specs.WordState.{have_same_state}

-- the row's word has the state of the word
abbrev pub IsRowOf : List Atom → List (List ℕ) → List ℕ → ℕ → Type 0
IsRowOf atoms words w r = (r < length words) × (have_same_state atoms w (get_or words r []) ≡ true)

-- each target by a class is a row of the row's word with the first character of the class
abbrev pub LeadsOn : List Atom → List (List ℕ) → (ℕ → ℕ → ℕ) → Type 0
LeadsOn atoms words target =
    (r k : ℕ) → r < length words → k < class_count atoms
    → IsRowOf atoms words (get_or words r [] ++ get_or (class_firsts atoms) k 0 ∷ []) (target r k)
