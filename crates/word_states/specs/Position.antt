-- The positions of a tree: the characters that it reads, after repeats are copied, in order. A position's number is
-- its place in this order, from 0 on.
use Rattle.std.specs.Prelude.{ℕ, ◌+◌, ◌*◌, zero, suc, max, List, [], ◌∷◌, ◌++◌, Option, Some, None}
use Rattle.patterns.specs.Tree.{Tree, Trees, empty, one_of, at_start, at_end, in_turn, either, repeated, no_trees, tree}

-- how often a repeated tree is copied: as often as it may be matched, and where that has no end, as often as it must
-- be matched, but once at least
abbrev pub copies : ℕ → Option ℕ → ℕ
copies low None = max low 1
copies low (Some high) = high

-- how many positions a tree has
abbrev mutual
  pub count_of : Tree → ℕ
  count_of empty = 0
  count_of (one_of ranges) = 1
  count_of at_start = 0
  count_of at_end = 0
  count_of (in_turn ts) = count_in ts
  count_of (either ts) = count_in ts
  count_of (repeated t low high) = copies low high * count_of t

  pub count_in : Trees → ℕ
  count_in no_trees = 0
  count_in (tree t ts) = count_of t + count_in ts

-- a list so many times, one after another
abbrev pub times : {A : Type 0} → ℕ → List A → List A
times zero xs = []
times (suc n) xs = xs ++ times n xs

-- the set of characters that each position reads, in order
abbrev mutual
  pub sets_of : Tree → List (List (ℕ × ℕ))
  sets_of empty = []
  sets_of (one_of ranges) = ranges ∷ []
  sets_of at_start = []
  sets_of at_end = []
  sets_of (in_turn ts) = sets_in ts
  sets_of (either ts) = sets_in ts
  sets_of (repeated t low high) = times (copies low high) (sets_of t)

  pub sets_in : Trees → List (List (ℕ × ℕ))
  sets_in no_trees = []
  sets_in (tree t ts) = sets_of t ++ sets_in ts
