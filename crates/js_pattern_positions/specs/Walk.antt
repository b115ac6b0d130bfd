-- The copies of a repeated tree, gone through one by one.
--
-- `one` goes through the copy whose first position is given, and says whether a match can end where that copy ends.
use Rattle.std.specs.Prelude.{◌≡◌, ◌≤◌, ℕ, zero, suc, ◌+◌, Bool, false, ◌&&◌, ◌||◌, nat_eq, nat_le, if◌then◌else◌, List, [], ◌∷◌, ◌++◌}
use Rattle.patterns.specs.Tree.{Tree, Trees, empty, one_of, at_start, at_end, in_turn, either, repeated, no_trees, tree}

-- the nodes of a tree
abbrev mutual
  pub nodes : Tree → ℕ
  nodes empty = 1
  nodes (one_of s) = 1
  nodes at_start = 1
  nodes at_end = 1
  nodes (in_turn ts) = suc (list_nodes ts)
  nodes (either ts) = suc (list_nodes ts)
  nodes (repeated t low high) = suc (nodes t)

  pub list_nodes : Trees → ℕ
  list_nodes no_trees = 1
  list_nodes (tree t ts) = suc (nodes t + list_nodes ts)

-- no position from here on was read
abbrev pub Quiet : (ℕ → Bool) → ℕ → Type 0
Quiet read base = (p : ℕ) → base ≤ p → read p ≡ false

-- whether a match can end after some of the copies, where i of them are gone through and n are left: `here` says
-- whether one can end where copy i begins, and `ends` whether one ends after those copies that may be the last
abbrev pub ends_after : (one : ℕ → Bool → Bool) (count low n i base : ℕ) (here ends : Bool) → Bool
ends_after one count low zero i base here ends = ends
ends_after one count low (suc n) i base here ends =
    ends_after one count low n (suc i) (base + count) (one base here)
    (ends || (nat_le low (suc i) && one base here))

-- whether a match can begin where a copy begins that is followed by n copies: the last may come again and again
abbrev pub begins_with : (again : Bool) (one : ℕ → Bool → Bool) (n base : ℕ) (here : Bool) → Bool
begins_with again one n base here = if again && nat_eq n 0 then here || one base false else here

-- what `next` says of the positions of n copies
abbrev pub next_after : (again : Bool) (next : ℕ → Bool → List Bool) (one : ℕ → Bool → Bool) (count n base : ℕ)
    (here : Bool) → List Bool
next_after again next one count zero base here = []
next_after again next one count (suc n) base here =
    next base (begins_with again one n base here)
    ++ next_after again next one count n (base + count) (one base here)

-- whether one of n positions was read
abbrev pub some_in : (ℕ → Bool) → (n base : ℕ) → Bool
some_in read zero base = false
some_in read (suc n) base = read base || some_in read n (base + 1)

-- for each of n copies of a set, whether it begins: where the one before was read
abbrev pub copies_begun : (again : Bool) (read : ℕ → Bool) (n base : ℕ) (here : Bool) → List Bool
copies_begun again read n base here = next_after again (λ at some. some ∷ []) (λ at some. read at) 1 n base here
