-- A code for trees of patterns: a list that gives each tree back. So values that hold trees can be distinguished.
use Rattle.std.specs.Prelude.{◌≡◌, ℕ, zero, suc, List, [], ◌∷◌, Option, None}
use mathlib.Core.Path.{refl, ap, ◌∙◌}
use Rattle.std.specs.Coded.{Coded, code_by, coded×, coded_ℕ, coded_list, coded_option}
use Rattle.patterns.specs.Tree.{Tree, Trees, empty, one_of, at_start, at_end, in_turn, either, repeated, no_trees, tree}

-- a mark with the numbers of a repeat and the ranges of a set
abbrev Token : Type 0
Token = (ℕ × ℕ) × (List (ℕ × ℕ) × Option ℕ)

abbrev bare : ℕ → Token
bare mark = ((mark, 0), ([], None))

-- the tokens of a tree before others, what it is made of first
abbrev mutual
  tokens : Tree → List Token → List Token
  tokens empty k = bare 0 ∷ k
  tokens at_start k = bare 1 ∷ k
  tokens at_end k = bare 2 ∷ k
  tokens (one_of rs) k = ((3, 0), (rs, None)) ∷ k
  tokens (in_turn ts) k = list_tokens ts (bare 4 ∷ k)
  tokens (either ts) k = list_tokens ts (bare 5 ∷ k)
  tokens (repeated t low high) k = tokens t (((6, low), ([], high)) ∷ k)

  list_tokens : Trees → List Token → List Token
  list_tokens no_trees k = bare 7 ∷ k
  list_tokens (tree t ts) k = tokens t (list_tokens ts (bare 8 ∷ k))

-- what was read and not yet used: trees, and lists of them
abbrev Read : Type 0
Read = List Tree × List Trees

abbrev of_list : (Trees → Tree) → Read → Read
of_list f (xs, ts ∷ ls) = (f ts ∷ xs, ls)
of_list f (xs, []) = (xs, [])

abbrev of_tree : (Tree → Tree) → Read → Read
of_tree f (t ∷ xs, ls) = (f t ∷ xs, ls)
of_tree f ([], ls) = ([], ls)

abbrev in_front : Read → Read
in_front (t ∷ xs, ts ∷ ls) = (xs, tree t ts ∷ ls)
in_front r = r

abbrev take_in : Token → Read → Read
take_in ((zero, low), (rs, high)) (xs, ls) = (empty ∷ xs, ls)
take_in ((suc zero, low), (rs, high)) (xs, ls) = (at_start ∷ xs, ls)
take_in ((suc (suc zero), low), (rs, high)) (xs, ls) = (at_end ∷ xs, ls)
take_in ((suc (suc (suc zero)), low), (rs, high)) (xs, ls) = (one_of rs ∷ xs, ls)
take_in ((suc (suc (suc (suc zero))), low), (rs, high)) r = of_list in_turn r
take_in ((suc (suc (suc (suc (suc zero)))), low), (rs, high)) r = of_list either r
take_in ((suc (suc (suc (suc (suc (suc zero))))), low), (rs, high)) r = of_tree (λ t. repeated t low high) r
take_in ((suc (suc (suc (suc (suc (suc (suc zero)))))), low), (rs, high)) (xs, ls) = (xs, no_trees ∷ ls)
take_in ((suc (suc (suc (suc (suc (suc (suc (suc n))))))), low), (rs, high)) r = in_front r

abbrev read : List Token → Read → Read
read [] r = r
read (k ∷ ks) r = read ks (take_in k r)

abbrev last : Read → Tree
last (t ∷ xs, ls) = t
last ([], ls) = empty

abbrev mutual
  read-tokens : (t : Tree) (k : List Token) (xs : List Tree) (ls : List Trees)
      → read (tokens t k) (xs, ls) ≡ read k (t ∷ xs, ls)
  read-tokens empty k xs ls = refl
  read-tokens at_start k xs ls = refl
  read-tokens at_end k xs ls = refl
  read-tokens (one_of rs) k xs ls = refl
  read-tokens (in_turn ts) k xs ls = read-list_tokens ts (bare 4 ∷ k) xs ls
  read-tokens (either ts) k xs ls = read-list_tokens ts (bare 5 ∷ k) xs ls
  read-tokens (repeated t low high) k xs ls = read-tokens t (((6, low), ([], high)) ∷ k) xs ls

  read-list_tokens : (ts : Trees) (k : List Token) (xs : List Tree) (ls : List Trees)
      → read (list_tokens ts k) (xs, ls) ≡ read k (xs, ts ∷ ls)
  read-list_tokens no_trees k xs ls = refl
  read-list_tokens (tree t ts) k xs ls =
      read-tokens t (list_tokens ts (bare 8 ∷ k)) xs ls ∙ read-list_tokens ts (bare 8 ∷ k) (t ∷ xs) ls

abbrev last-tokens : (t : Tree) → last (read (tokens t []) ([], [])) ≡ t
last-tokens t = ap last (read-tokens t [] [] [])

abbrev pub tree_code : Coded Tree
tree_code =
    code_by (List Token)
    (coded_list (coded× (coded× coded_ℕ coded_ℕ) (coded× (coded_list (coded× coded_ℕ coded_ℕ)) (coded_option coded_ℕ))))
    (λ t. tokens t []) (λ ks. last (read ks ([], []))) last-tokens
