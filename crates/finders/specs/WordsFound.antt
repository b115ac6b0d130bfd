-- The words that pass a test, in order, and how long words are looked at.
use Rattle.std.specs.Prelude.{ℕ, ◌*◌, List, [], ◌∷◌, filter, Bool, Option, Some, None}
use Rattle.cells.specs.WordsInOrder.{shorter}
use Rattle.alternatives.specs.Limit.{most_states, most_words}

-- Longer words than these need not be looked at to find a first word, since each row is reached by a word of fewer
-- characters than there are rows; nor to count words up to the most that are counted, whose number settles within
-- so many rows and words.
unfoldable pub far : ℕ
far = most_states * most_words

abbrev pub words_found : List ℕ → ℕ → (List ℕ → Bool) → List (List ℕ)
words_found characters far test = filter test (shorter characters far)

abbrev pub first_of : {A : Type 0} → List A → Option A
first_of [] = None
first_of (x ∷ xs) = Some x
