-- What is kept while rows are found and numbered.
use Rattle.std.specs.Prelude.{◌≡◌, ◌<◌, ◌≤◌, ℕ, List, [], ◌∷◌, ◌++◌, true, map, flat_map, take, length, get_or}
use Rattle.std.specs.List.{list_all}
use Rattle.patterns.specs.CharSet.{is_scalar}
use Rattle.word_states.specs.Atom.{Atom}
use Rattle.word_states.specs.Classes.{class_firsts}
use Rattle.word_states.specs.Mention.{mention_all}
use Rattle.word_states.specs.WordState.{have_same_state}
use Rattle.word_states.specs.Rows.{AreRows, row_of, targets_of}
use Rattle.js_automaton.specs.declared.state.TupleState.{TupleState}
use Rattle.js_automaton.specs.Tuple.{IsStateOf}

-- the states are those of the words
abbrev pub AreStates : List Atom → List TupleState → List (List ℕ) → Type 0
AreStates atoms [] [] = Unit {0}
AreStates atoms (s ∷ states) (w ∷ words) = IsStateOf atoms s w × AreStates atoms states words
AreStates atoms _ _ = ⊥

-- a row's word with one more character, the first of each class in order
abbrev pub longer_words : List Atom → List ℕ → List (List ℕ)
longer_words atoms w = map (λ c. w ++ c ∷ []) (class_firsts atoms)

-- the words that the rows before row i mention, and those that row i mentions by its first k classes
abbrev pub words_before : List Atom → List (List ℕ) → ℕ → ℕ → List (List ℕ)
words_before atoms rows i k =
    flat_map (longer_words atoms) (take i rows) ++ take k (longer_words atoms (get_or rows i []))

-- these are the states and the targets found, with the rows before row i gone through and the first k classes of row i
pub record IsFound (atoms : List Atom) (keys : List TupleState) (numbers : List ℕ) (i k : ℕ) : Type 0 where
  pub rows : List (List ℕ)
  pub states : AreStates atoms keys rows
  pub words : list_all (list_all is_scalar) rows ≡ true
  pub mentioned : rows ≡ mention_all (have_same_state atoms) [] ([] ∷ words_before atoms rows i k)
  pub within : i < length rows
  pub targets : numbers ≡ map (row_of atoms rows) (words_before atoms rows i k)

-- these are all rows, their states and their targets
abbrev pub AreAll : List Atom → List TupleState → List ℕ → List (List ℕ) → Type 0
AreAll atoms keys numbers rows =
    AreRows atoms rows × (length rows ≤ 65536) × (numbers ≡ flat_map (targets_of atoms rows) rows)
    × AreStates atoms keys rows

abbrev pub HaveRows : List Atom → List TupleState → List ℕ → Type 0
HaveRows atoms keys numbers = (rows : List (List ℕ)) × AreAll atoms keys numbers rows
