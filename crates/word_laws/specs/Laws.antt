-- What holds of classes, states and rows, over all atoms and words.
use Rattle.std.specs.Prelude.{◌≡◌, ℕ, ◌<◌, ◌≤◌, List, [], ◌∷◌, ◌++◌, true, length, get_or}
use Rattle.std.specs.List.{list_any, list_all}
use Rattle.patterns.specs.CharSet.{is_scalar, comes_no_later}
use Rattle.word_states.specs.Atom.{Atom}
use Rattle.word_states.specs.Classes.{are_alike, dividers, class_firsts, class_count, class_of, is_in_class}
use Rattle.word_states.specs.WordState.{word_state, have_same_state}
use Rattle.word_states.specs.Rows.{AreRows, HaveStates, row_of, signature_of, targets_of}

-- a list of characters
abbrev pub IsWord : List ℕ → Type 0
IsWord w = list_all is_scalar w ≡ true

-- each character is in one class, and in no other
abbrev pub ClassesDivide : Type 0
ClassesDivide =
    (atoms : List Atom) (c : ℕ) → is_scalar c ≡ true
    → (class_of atoms c < class_count atoms) × (is_in_class atoms (class_of atoms c) c ≡ true) ×
    ((k : ℕ) → k < class_count atoms → is_in_class atoms k c ≡ true → k ≡ class_of atoms c)

-- the first character of a class is in it, and no other character of it comes before
abbrev pub FirstsComeFirst : Type 0
FirstsComeFirst =
    (atoms : List Atom) (k c : ℕ) → k < class_count atoms → is_in_class atoms k c ≡ true
    → (is_in_class atoms k (get_or (class_firsts atoms) k 0) ≡ true)
    × (comes_no_later (get_or (class_firsts atoms) k 0) c ≡ true)

-- and classes are in the order of their first characters
abbrev pub ClassesInOrder : Type 0
ClassesInOrder =
    (atoms : List Atom) (j k : ℕ) → j < k → k < class_count atoms
    → comes_no_later (get_or (class_firsts atoms) j 0) (get_or (class_firsts atoms) k 0) ≡ true

-- the state after one more character is known of the state and the character's class
abbrev pub StateGoesOn : Type 0
StateGoesOn =
    (atoms : List Atom) (v w : List ℕ) (c d : ℕ) → word_state atoms v ≡ word_state atoms w
    → are_alike (dividers atoms) c d ≡ true → word_state atoms (v ++ c ∷ []) ≡ word_state atoms (w ++ d ∷ [])

-- words of one state have the same truths
abbrev pub StateTellsTruths : Type 0
StateTellsTruths =
    (atoms : List Atom) (v w : List ℕ) → word_state atoms v ≡ word_state atoms w
    → signature_of atoms v ≡ signature_of atoms w

-- there is no other list of rows
abbrev pub RowsAreOne : Type 0
RowsAreOne = (atoms : List Atom) (L K : List (List ℕ)) → AreRows atoms L → AreRows atoms K → L ≡ K

-- every word has its state among the rows, and so there are as many rows as states
abbrev pub RowsHaveAll : Type 0
RowsHaveAll =
    (atoms : List Atom) (L : List (List ℕ)) → AreRows atoms L
    → HaveStates atoms (length L) × ((n : ℕ) → HaveStates atoms n → n ≤ length L)
    × ((w : List ℕ) → IsWord w → list_any (have_same_state atoms w) L ≡ true)

-- a word's row leads by the class of one more character to the row of the longer word, and has the word's truths
abbrev pub RowsGoOn : Type 0
RowsGoOn =
    (atoms : List Atom) (L : List (List ℕ)) → AreRows atoms L → (w : List ℕ) → IsWord w
    → (row_of atoms L w < length L)
    × (signature_of atoms (get_or L (row_of atoms L w) []) ≡ signature_of atoms w)
    × ((c : ℕ) → is_scalar c ≡ true
    → get_or (targets_of atoms L (get_or L (row_of atoms L w) [])) (class_of atoms c) 0 ≡ row_of atoms L (w ++ c ∷ []))
