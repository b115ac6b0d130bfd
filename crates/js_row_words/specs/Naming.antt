-- The rows that are named by the rows before one, and by that row's first classes.
use Rattle.std.specs.Prelude.{ℕ, List, [], ◌∷◌, ◌++◌, map, flat_map, take, get_or}
use Rattle.word_states.specs.Atom.{Atom}
use Rattle.word_states.specs.Classes.{class_firsts}
use Rattle.word_states.specs.Mention.{mention_all}
use Rattle.word_states.specs.WordState.{have_same_state}

abbrev pub longer : List Atom → List ℕ → List (List ℕ)
longer atoms w = map (λ c. w ++ c ∷ []) (class_firsts atoms)

abbrev pub named : List Atom → List (List ℕ) → ℕ → ℕ → List (List ℕ)
named atoms L i k =
    mention_all (have_same_state atoms) []
    ([] ∷ flat_map (longer atoms) (take i L) ++ take k (longer atoms (get_or L i [])))
