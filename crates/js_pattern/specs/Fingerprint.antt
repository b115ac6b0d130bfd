-- A number of a tree, by which it is looked for among others: equal trees have the same one.
use Rattle.std.specs.Prelude.{ℕ, suc, ◌+◌, ◌*◌, ◌%◌, ◌^◌, List, [], ◌∷◌, Option, Some, None}
use Rattle.std.specs.Hash as fed
use Rattle.std.specs.Hash.{Alike, same_Alike}
use Rattle.patterns.specs.Tree.{Tree, Trees, empty, one_of, at_start, at_end, in_turn, either, repeated, no_trees, tree}
use Rattle.patterns.specs.SameTree.{same_tree}
use Rattle.pattern_laws.proofs.SameTrees.{same_tree-Decides}

-- one number of 64 bits for two
unfoldable pub mix : ℕ → ℕ → ℕ
mix print next = (print * 1099511628211 + next) % 2 ^ 64

abbrev pub bound_print : Option ℕ → ℕ
bound_print None = 0
bound_print (Some n) = suc n

abbrev pub ranges_from : ℕ → List (ℕ × ℕ) → ℕ
ranges_from print [] = print
ranges_from print (r ∷ rs) = ranges_from (mix (mix print r.0) r.1) rs

abbrev mutual
  pub tree_print : Tree → ℕ
  tree_print empty = 1
  tree_print at_start = 2
  tree_print at_end = 3
  tree_print (one_of rs) = ranges_from 4 rs
  tree_print (in_turn ts) = trees_from 5 ts
  tree_print (either ts) = trees_from 6 ts
  tree_print (repeated t low high) = mix (mix (mix 7 (tree_print t)) low) (bound_print high)

  pub trees_from : ℕ → Trees → ℕ
  trees_from print no_trees = print
  trees_from print (tree t ts) = trees_from (mix print (tree_print t)) ts

pub prints_Alike : Alike same_tree (λ t. fed.u64 (tree_print t))
prints_Alike = same_Alike (λ t. fed.u64 (tree_print t)) same_tree-Decides
