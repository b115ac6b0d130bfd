-- What a pattern matches. A word is a list of scalar values, and its places go from 0 to its length.
use Rattle.std.specs.Prelude.{◌≡◌, ℕ, zero, suc, ◌<◌, ◌≤◌, ◌⊎◌, List, length, slice_index, IfSome, IsTrue}
use Rattle.patterns.specs.CharSet.{has}
use Rattle.patterns.specs.Tree.{Tree, Trees, empty, one_of, at_start, at_end, in_turn, either, repeated, no_trees, tree}

-- a step that is taken k times, one after another, leads from i to j
abbrev pub Repeats : (ℕ → ℕ → Type 0) → ℕ → ℕ → ℕ → Type 0
Repeats Step zero i j = i ≡ j
Repeats Step (suc k) i j = (h : ℕ) × Step i h × Repeats Step k h j

-- the tree matches the word from place i to place j
abbrev mutual
  pub Matches : Tree → List ℕ → ℕ → ℕ → Type 0
  Matches empty w i j = i ≡ j
  Matches (one_of ranges) w i j = (j ≡ suc i) × (i < length w) × IsTrue (has ranges (slice_index w i))
  Matches at_start w i j = (i ≡ 0) × (j ≡ 0)
  Matches at_end w i j = (i ≡ length w) × (j ≡ length w)
  Matches (in_turn ts) w i j = MatchesInTurn ts w i j
  Matches (either ts) w i j = MatchesOne ts w i j
  Matches (repeated t low high) w i j =
      (k : ℕ) × (low ≤ k) × IfSome high (λ most. k ≤ most) × Repeats (Matches t w) k i j

  -- some places from i to j split it, each tree matching its piece
  pub MatchesInTurn : Trees → List ℕ → ℕ → ℕ → Type 0
  MatchesInTurn no_trees w i j = i ≡ j
  MatchesInTurn (tree t ts) w i j = (h : ℕ) × Matches t w i h × MatchesInTurn ts w h j

  -- one of the trees matches
  pub MatchesOne : Trees → List ℕ → ℕ → ℕ → Type 0
  MatchesOne no_trees w i j = ⊥
  MatchesOne (tree t ts) w i j = Matches t w i j ⊎ MatchesOne ts w i j

-- the tree matches somewhere in the word
abbrev pub IsFoundIn : List ℕ → Tree → Type 0
IsFoundIn w t = (i : ℕ) × (j : ℕ) × (i ≤ length w) × (j ≤ length w) × Matches t w i j
