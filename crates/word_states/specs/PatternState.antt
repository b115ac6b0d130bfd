-- What is kept of a word for a pattern: the states of the automaton that a pattern stands for, said of words alone.
use Rattle.std.specs.Prelude.{ℕ, zero, suc, Bool, List, [], ◌∷◌, ◌++◌, length, if◌then◌else◌}
use Rattle.patterns.specs.Tree.{Tree, Trees, empty, one_of, at_start, at_end, in_turn, either, repeated, no_trees, tree}
use Rattle.patterns.specs.Decision.{finds}
use Rattle.word_states.specs.LastRead.{last_read}

-- the tree with what matches nothing at all in place of each end assertion: its matches are those of the tree in which
-- no end assertion is used
abbrev mutual
  pub without_end : Tree → Tree
  without_end empty = empty
  without_end (one_of ranges) = one_of ranges
  without_end at_start = at_start
  without_end at_end = either no_trees
  without_end (in_turn ts) = in_turn (all_without_end ts)
  without_end (either ts) = either (all_without_end ts)
  without_end (repeated t low high) = repeated (without_end t) low high

  pub all_without_end : Trees → Trees
  all_without_end no_trees = no_trees
  all_without_end (tree t ts) = tree (without_end t) (all_without_end ts)

pub data PatternState : Type 0 where
  -- a match lies in the word, whatever comes after it
  done : PatternState
  -- else the positions, rising, that partial matches read last at the word's end
  reading : List ℕ → PatternState

-- the places up to a number
abbrev pub places_to : ℕ → List ℕ
places_to zero = 0 ∷ []
places_to (suc n) = places_to n ++ suc n ∷ []

-- the numbers, from one on, of the entries that are true
abbrev pub numbers_from : ℕ → List Bool → List ℕ
numbers_from k [] = []
numbers_from k (b ∷ bs) = if b then k ∷ numbers_from (suc k) bs else numbers_from (suc k) bs

-- whether a match that uses no end assertion lies in the word
abbrev pub is_done : Tree → List ℕ → Bool
is_done t w = finds (without_end t) w

-- for each position of the tree: whether a partial match read it last, wherever it began
abbrev pub read_flags : Tree → List ℕ → List Bool
read_flags t w = last_read t w (places_to (length w))

-- what is kept of a word for a pattern
unfoldable pub pattern_state : Tree → List ℕ → PatternState
pattern_state t w = if is_done t w then done else reading (numbers_from 0 (read_flags t w))

-- whether the pattern matches somewhere in the word
abbrev pub accepts : Tree → List ℕ → Bool
accepts t w = finds t w
