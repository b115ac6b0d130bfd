-- The tree of a pattern.
use Rattle.std.specs.Prelude.{ℕ, List, [], ◌∷◌, Option}

mutual
  pub data Tree : Type 0 where
    empty : Tree
    -- one character of a set, which is given by its ranges
    one_of : List (ℕ × ℕ) → Tree
    at_start : Tree
    at_end : Tree
    in_turn : Trees → Tree
    either : Trees → Tree
    -- so often at least, and so often at most where there is a second number
    repeated : Tree → ℕ → Option ℕ → Tree

  pub data Trees : Type 0 where
    no_trees : Trees
    tree : Tree → Trees → Trees

abbrev pub trees_of : List Tree → Trees
trees_of [] = no_trees
trees_of (t ∷ ts) = tree t (trees_of ts)
