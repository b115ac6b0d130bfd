-- What a tree makes of a state: whether a match can end where the word ends, and which positions read the character
-- that comes next.
--
-- `first` says that the word is empty, and `last` that no character comes next. `read p` says that position p was read
-- last, `base` is the number of the tree's first position, and `begins` says that a match of the tree can begin where
-- the word ends.
use Rattle.std.specs.Prelude.{ℕ, zero, suc, ◌+◌, ◌-◌, Bool, true, false, ◌&&◌, ◌||◌, nat_lt, if◌then◌else◌, List, [], ◌∷◌, ◌++◌, Some, None}
use Rattle.std.specs.List.{list_any}
use Rattle.std.specs.Prelude.{nat_eq}
use Rattle.patterns.specs.CharSet.{has}
use Rattle.patterns.specs.Tree.{Tree, Trees, empty, one_of, at_start, at_end, in_turn, either, repeated, no_trees, tree}
use Rattle.word_states.specs.Position.{count_of}
use Rattle.word_states.specs.PatternState.{PatternState, done, reading, numbers_from}

-- through none, or up to so many more copies, where `one` goes through the copy whose first position is given
abbrev pub through_some : (one : ℕ → Bool → Bool) (count more : ℕ) → ℕ → Bool → Bool
through_some one count zero base begins = begins
through_some one count (suc more) base begins =
    begins || through_some one count more (base + count) (one base begins)

-- through so many copies, and up to so many more
abbrev pub through_copies : (one : ℕ → Bool → Bool) (count more low : ℕ) → ℕ → Bool → Bool
through_copies one count more zero base begins = through_some one count more base begins
through_copies one count more (suc low) base begins =
    through_copies one count more low (base + count) (one base begins)

-- through so many copies, and then through one that may come again and again
abbrev pub through_copies_on : (one : ℕ → Bool → Bool) (count low : ℕ) → ℕ → Bool → Bool
through_copies_on one count zero base begins = one base (begins || one base false)
through_copies_on one count (suc low) base begins = through_copies_on one count low (base + count) (one base begins)

-- whether a match of the tree can end where the word ends
abbrev mutual
  pub ends_here : Tree → (first last : Bool) → (read : ℕ → Bool) → (base : ℕ) → (begins : Bool) → Bool
  ends_here empty first last read base begins = begins
  ends_here (one_of ranges) first last read base begins = read base
  ends_here at_start first last read base begins = begins && first
  ends_here at_end first last read base begins = begins && last
  ends_here (in_turn ts) first last read base begins = ends_here_in_turn ts first last read base begins
  ends_here (either ts) first last read base begins = ends_here_of_one ts first last read base begins
  ends_here (repeated t zero None) first last read base begins =
      begins || ends_here t first last read base false
  ends_here (repeated t (suc low) None) first last read base begins =
      through_copies_on (λ at some. ends_here t first last read at some) (count_of t) low base begins
  ends_here (repeated t low (Some high)) first last read base begins =
      if nat_lt high low then false
      else through_copies (λ at some. ends_here t first last read at some) (count_of t) (high - low) low base begins

  pub ends_here_in_turn : Trees → (first last : Bool) → (read : ℕ → Bool) → (base : ℕ) → (begins : Bool) → Bool
  ends_here_in_turn no_trees first last read base begins = begins
  ends_here_in_turn (tree t ts) first last read base begins =
      ends_here_in_turn ts first last read (base + count_of t) (ends_here t first last read base begins)

  pub ends_here_of_one : Trees → (first last : Bool) → (read : ℕ → Bool) → (base : ℕ) → (begins : Bool) → Bool
  ends_here_of_one no_trees first last read base begins = false
  ends_here_of_one (tree t ts) first last read base begins =
      ends_here t first last read base begins || ends_here_of_one ts first last read (base + count_of t) begins

-- what `next` says of the positions of some copies, one after another
abbrev pub next_copies : (next : ℕ → Bool → List Bool) (one : ℕ → Bool → Bool) (count n : ℕ) → ℕ → Bool → List Bool
next_copies next one count zero base begins = []
next_copies next one count (suc n) base begins =
    next base begins ++ next_copies next one count n (base + count) (one base begins)

-- `next_copies` with one more copy after these, that may come again and again
abbrev pub next_copies_on : (next : ℕ → Bool → List Bool) (one : ℕ → Bool → Bool) (count n : ℕ) → ℕ → Bool → List Bool
next_copies_on next one count zero base begins = next base (begins || one base false)
next_copies_on next one count (suc n) base begins =
    next base begins ++ next_copies_on next one count n (base + count) (one base begins)

-- for each position of the tree, in order: whether it reads the character c, which comes next
abbrev mutual
  pub reads_next : Tree → (first : Bool) → (read : ℕ → Bool) → (c : ℕ) → (base : ℕ) → (begins : Bool) → List Bool
  reads_next empty first read c base begins = []
  reads_next (one_of ranges) first read c base begins = (begins && has ranges c) ∷ []
  reads_next at_start first read c base begins = []
  reads_next at_end first read c base begins = []
  reads_next (in_turn ts) first read c base begins = reads_next_in_turn ts first read c base begins
  reads_next (either ts) first read c base begins = reads_next_of_one ts first read c base begins
  reads_next (repeated t low None) first read c base begins =
      next_copies_on (λ at some. reads_next t first read c at some) (λ at some. ends_here t first false read at some)
      (count_of t) (low - 1) base begins
  reads_next (repeated t low (Some high)) first read c base begins =
      next_copies (λ at some. reads_next t first read c at some) (λ at some. ends_here t first false read at some)
      (count_of t) high base begins

  pub reads_next_in_turn : Trees → (first : Bool) → (read : ℕ → Bool) → (c : ℕ) → (base : ℕ) → (begins : Bool)
      → List Bool
  reads_next_in_turn no_trees first read c base begins = []
  reads_next_in_turn (tree t ts) first read c base begins =
      reads_next t first read c base begins
      ++ reads_next_in_turn ts first read c (base + count_of t) (ends_here t first false read base begins)

  pub reads_next_of_one : Trees → (first : Bool) → (read : ℕ → Bool) → (c : ℕ) → (base : ℕ) → (begins : Bool)
      → List Bool
  reads_next_of_one no_trees first read c base begins = []
  reads_next_of_one (tree t ts) first read c base begins =
      reads_next t first read c base begins ++ reads_next_of_one ts first read c (base + count_of t) begins

-- the flag at a place, false past the end
abbrev pub flag_at : List Bool → ℕ → Bool
flag_at [] p = false
flag_at (b ∷ bs) zero = b
flag_at (b ∷ bs) (suc p) = flag_at bs p

-- the number is among these
abbrev pub is_among : List ℕ → ℕ → Bool
is_among ps p = list_any (nat_eq p) ps

-- the state with these flags, of a word that isn't empty
abbrev pub state_with : Tree → List Bool → PatternState
state_with t flags =
    if ends_here t false false (flag_at flags) 0 true then done else reading (numbers_from 0 flags)

-- the state of the empty word
abbrev pub first_state : Tree → PatternState
first_state t = if ends_here t true false (λ p. false) 0 true then done else reading []

-- the state after one more character, where the word before was empty or wasn't
abbrev pub next_state : Tree → (first : Bool) → (c : ℕ) → PatternState → PatternState
next_state t first c done = done
next_state t first c (reading ps) = state_with t (reads_next t first (is_among ps) c 0 true)

-- whether the pattern matches in a word of this state, which is empty or isn't
abbrev pub is_accepted : Tree → (first : Bool) → PatternState → Bool
is_accepted t first done = true
is_accepted t first (reading ps) = ends_here t first true (is_among ps) 0 true
