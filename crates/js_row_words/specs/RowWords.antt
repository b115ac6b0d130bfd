-- The words that lead from a row to rows that are marked.
use Rattle.std.specs.Prelude.{ℕ, List, [], ◌++◌, get_or, Bool, false}
use Rattle.word_states.specs.Atom.{Atom}
use Rattle.word_states.specs.Classes.{characters}
use Rattle.word_states.specs.Rows.{row_of}
use Rattle.finders.specs.WordsFound.{far, words_found}

-- whether the row that a word leads to is marked
abbrev pub is_marked : List Atom → List (List ℕ) → List Bool → List ℕ → Bool
is_marked atoms rows marks w = get_or marks (row_of atoms rows w) false

-- from row r, in order
abbrev pub words_from : List Atom → List (List ℕ) → List Bool → ℕ → List (List ℕ)
words_from atoms rows marks r =
    words_found characters far (λ w. is_marked atoms rows marks (get_or rows r [] ++ w))
