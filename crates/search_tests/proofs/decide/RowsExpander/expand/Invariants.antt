-- What is left answers as all rows do.
use Rattle.std.proofs.Common.{◌≡◌, map, drop, option_map}
use Rattle.js_expansion.specs.View.{limit_view}
use Rattle.search_tests.specs.Rows.{row, answer_to}
use Rattle.search_tests.proofs.decide.RowsExpander.expand.Given as goal

abbrev pub invariant-loop-row : goal.invariant-loop-row
invariant-loop-row l =
    answer_to (map (λ r. row r.goal r.has_null r.elements.items (option_map limit_view r.hole))
    (drop l.row-index l.self.rows.items)) l.goal
    ≡ answer_to (map (λ r. row r.goal r.has_null r.elements.items (option_map limit_view r.hole)) l.self.rows.items)
    l.goal
