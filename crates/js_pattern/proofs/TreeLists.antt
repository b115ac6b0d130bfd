-- The lists that lists of trees are made of.
use Rattle.std.proofs.Common.{◌≡◌, ℕ, ◌<◌, arith, List, [], ◌∷◌, map, length, get_or, refl, ap, sym, ◌∙◌}
use Rattle.std.proofs.Math.ListN.{get_or-map, length-map}
use Rattle.std.proofs.lemmas.List as ListsAt
use Rattle.patterns.specs.Tree.{Tree, Trees, no_trees, tree, trees_of}
use Rattle.js_pattern.specs.declared.re.Re.{Re}
use Rattle.js_pattern.specs.View.{view}

abbrev pub trees : Trees → List Tree
trees no_trees = []
trees (tree t ts) = t ∷ trees ts

trees-trees_of : (ts : List Tree) → trees (trees_of ts) ≡ ts
trees-trees_of [] = refl
trees-trees_of (t ∷ ts) = ap (λ us. t ∷ us) (trees-trees_of ts)

pub trees-of : (ts : List Tree) (l : Trees) → trees_of ts ≡ l → trees l ≡ ts
trees-of ts l e = ap trees (sym e) ∙ trees-trees_of ts

-- as many trees stand for the list as the program's list has
pub length-trees : (xs : List Re) (l : Trees) → trees_of (map view xs) ≡ l → length (trees l) ≡ length xs
length-trees xs l e = ap length (trees-of (map view xs) l e) ∙ length-map xs view

-- lists that stand for the same are the same at each place
pub same_at : (xs ys : List Re) (i : ℕ) (x y : Re) → i < length xs → length xs ≡ length ys
    → x ≡ get_or xs i x → y ≡ get_or ys i y → map view xs ≡ map view ys → view x ≡ view y
same_at xs ys i x y l n e h same =
    ap view e ∙ sym (get_or-map view xs i x) ∙ ap (λ zs. get_or zs i (view x)) same
    ∙ ListsAt.get_or-map view ys i y (view x) (omega (arith, n)) ∙ ap view (sym h)
