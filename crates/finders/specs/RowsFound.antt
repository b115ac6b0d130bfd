-- Rows as a function: they are gone through in order, so many at most. Each is represented by what was mentioned first
-- of it.
use Rattle.std.specs.Prelude.{ℕ, zero, suc, List, [], ◌∷◌, ◌++◌, map, length, get_or, Bool, cond, nat_lt}
use Rattle.word_states.specs.Atom.{Atom}
use Rattle.word_states.specs.Mention.{mention_all}
use Rattle.word_states.specs.WordState.{have_same_state}

module _ {A : Type 0} (same : A → A → Bool) (extend : A → List A) (start : A) where
  -- with row i gone through, where there is one: what it leads to is mentioned
  abbrev pub go_through : ℕ → List A → List A
  go_through i L = cond (nat_lt i (length L)) (mention_all same L (extend (get_or L i start))) L

  -- with so many gone through; where there are no more rows, these are all
  abbrev pub grow : ℕ → List A
  grow zero = start ∷ []
  grow (suc i) = go_through i (grow i)

-- a word with one more character, each of these in order
abbrev pub longer : List ℕ → List ℕ → List (List ℕ)
longer cs w = map (λ c. w ++ c ∷ []) cs

-- the rows of atoms, by the first characters of their classes
abbrev pub rows_by : List ℕ → List Atom → ℕ → List (List ℕ)
rows_by firsts atoms n = grow (have_same_state atoms) (longer firsts) [] n
