-- Lists of trees, gone through one by one.
use Rattle.std.proofs.Common.{◌≡◌, ℕ, zero, suc, ◌+◌, ◌<◌, ◌≤◌, List, [], ◌∷◌, map, length, drop, get_or, refl, ap, arith, add-one}
use Rattle.std.proofs.Math.Seq.{drop-cons}
use Rattle.patterns.specs.Tree.{Trees, no_trees, tree, trees_of}
use Rattle.js_pattern.specs.declared.re.Re.{Re}
use Rattle.js_pattern.specs.View.{view}
use Rattle.js_pattern_positions.specs.Walk.{nodes, list_nodes}

-- the trees from place i on
abbrev pub rest : List Re → ℕ → Trees
rest items i = trees_of (map view (drop i items))

-- the trees from place i on are the tree at place i and those from the next place on
pub rest-tree : (items : List Re) (i : ℕ) (x : Re) → i < length items → x ≡ get_or items i x
    → rest items i ≡ tree (view x) (rest items (i + 1))
rest-tree items i x within is = rw (add-one, drop-cons items i x, ← is) refl

pub rest-none : (items : List Re) (i : ℕ) → length items ≤ i → rest items i ≡ no_trees
rest-none [] zero h = refl
rest-none [] (suc i) h = refl
rest-none (x ∷ items) zero h = absurd (omega (arith, h))
rest-none (x ∷ items) (suc i) h = rest-none items i (omega (arith, h))

pub nodes-item : (items : List Re) (i : ℕ) (x : Re) → i < length items → x ≡ get_or items i x
    → suc (nodes (view x)) ≤ list_nodes (trees_of (map view items))
nodes-item [] i x h is = absurd (omega (arith, h))
nodes-item (y ∷ items) zero x h is = let e = ap (λ z. nodes (view z)) is in omega (arith, e)
nodes-item (y ∷ items) (suc i) x h is = let less = nodes-item items i x (omega (arith, h)) is in omega (arith, less)
