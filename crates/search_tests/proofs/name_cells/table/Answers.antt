-- The table is one.
use Rattle.std.proofs.Common.{◌≡◌, [], ◌∷◌, map, refl, ap₂, ◌∙◌}
use Rattle.positions.specs.Position.{is_table}
use Rattle.js_algebra.specs.View.{node_view}
use Rattle.search_tests.proofs.name_cells.table.Goals as goal

pub make-requires-clause-table : goal.make-requires-clause-table
make-requires-clause-table c =
    let ranks : c.from_vec-2.result ≡ 0 ∷ 0 ∷ 0 ∷ 0 ∷ 1 ∷ 0 ∷ 0 ∷ 0 ∷ 0 ∷ 0 ∷ 0 ∷ [] =
    c.from_vec-2.ensures ∙ c.in_ok-ranks.ensures.items in
    ap₂ (λ ns rs. is_table (map node_view ns) rs) (c.from_vec.ensures ∙ c.in_ok-nodes.ensures.items) ranks ∙ refl
