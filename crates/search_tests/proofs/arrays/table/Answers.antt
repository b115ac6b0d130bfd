-- The table is one.
use Rattle.std.proofs.Common.{◌≡◌, ℕ, List, [], ◌∷◌, map, true, ◌&&◌, nat_lt, refl, ap, ap₂, ◌∙◌}
use Rattle.documents.specs.Tests.{every}
use Rattle.positions.specs.Position.{is_table}
use Rattle.js_algebra.specs.View.{node_view, places}
use Rattle.js_algebra.specs.declared.node.Pos.{Pos}
use Rattle.search_tests.proofs.arrays.table.Goals as goal

every_place : (n : ℕ) (ps : List Pos) → every (λ q. nat_lt q n) (places ps) ≡ every (λ p. nat_lt p.0 n) ps
every_place n [] = refl
every_place n (p ∷ ps) = ap (λ b. nat_lt p.0 n && b) (every_place n ps)

pub make-requires-clause-table : goal.make-requires-clause-table
make-requires-clause-table c =
    let h : every (λ q. nat_lt q 14) (places c.from_vec.result) ≡ true =
    every_place 14 c.from_vec.result ∙ ap (λ ps. every (λ p. nat_lt p.0 14) ps) c.from_vec.ensures ∙ c.requires in
    ap₂ (λ ns rs. is_table (map node_view ns) rs) (c.from_vec-2.ensures ∙ c.in_ok-nodes.ensures.items)
    (c.from_vec-3.ensures ∙ c.in_ok-ranks.ensures.items)
    ∙ rw h refl
