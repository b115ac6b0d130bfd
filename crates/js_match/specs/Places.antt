-- Sets of places in a word, as lists, and the places to which a step leads from them.
use Rattle.std.specs.Prelude.{ℕ, zero, suc, ◌+◌, ◌≤◌, ◌≡◌, List, [], ◌∷◌, get_or, Bool, true, false, ◌||◌, cond, nat_eq, nat_le, Option, Some, None, IfSome, IsTrue}
use Rattle.documents.specs.Tests.{every, some}
use Rattle.patterns.specs.Tree.{Tree, Trees, empty, one_of, at_start, at_end, in_turn, either, repeated, no_trees, tree}
use Rattle.patterns.specs.Match.{Repeats}

abbrev pub is_at : ℕ → List ℕ → Bool
is_at j xs = some (λ x. nat_eq x j) xs

abbrev pub IsAt : ℕ → List ℕ → Type 0
IsAt j xs = IsTrue (is_at j xs)

-- the ends are the places to which the step leads from some start
pub record Leads (Step : ℕ → ℕ → Type 0) (starts ends : List ℕ) : Type 0 where
  pub sound : (j : ℕ) → IsAt j ends → (i : ℕ) × IsAt i starts × Step i j
  pub complete : (i j : ℕ) → IsAt i starts → Step i j → IsAt j ends

-- no more than so many steps
abbrev pub More : (ℕ → ℕ → Type 0) → Option ℕ → ℕ → ℕ → Type 0
More Step most i j = (k : ℕ) × IfSome most (λ m. k ≤ m) × Repeats Step k i j

-- places of a word of that length
abbrev pub are_within : ℕ → List ℕ → Bool
are_within n xs = every (λ i. nat_le i n) xs

-- `both` has just the places of the two lists
abbrev pub HasBoth : (xs ys both : List ℕ) → Type 0
HasBoth xs ys zs = (j : ℕ) → is_at j zs ≡ (is_at j xs || is_at j ys)

-- a table of places
abbrev pub marked : List Bool → ℕ → Bool
marked bs j = get_or bs j false

abbrev pub unmarked : List Bool → ℕ
unmarked [] = 0
unmarked (b ∷ bs) = cond b (unmarked bs) (suc (unmarked bs))

-- the nodes of a tree
abbrev mutual
  pub nodes : Tree → ℕ
  nodes empty = 1
  nodes (one_of s) = 1
  nodes at_start = 1
  nodes at_end = 1
  nodes (in_turn ts) = suc (list_nodes ts)
  nodes (either ts) = suc (list_nodes ts)
  nodes (repeated t low high) = suc (nodes t)

  pub list_nodes : Trees → ℕ
  list_nodes no_trees = 1
  list_nodes (tree t ts) = suc (nodes t + list_nodes ts)

-- there is something to go on from, and a step left to take
abbrev pub is_open : List ℕ → Option ℕ → Bool
is_open [] left = false
is_open (x ∷ xs) (Some zero) = false
is_open (x ∷ xs) (Some (suc n)) = true
is_open (x ∷ xs) None = true

abbrev pub has_place : List ℕ → Bool
has_place [] = false
has_place (x ∷ xs) = true
