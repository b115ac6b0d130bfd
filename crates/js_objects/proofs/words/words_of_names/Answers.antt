-- The cells are those of the rows.
use Rattle.std.proofs.Common.{◌≡◌, ◌≤◌, map, take, length, ap, sym, subst, ◌∙◌}
use Rattle.js_algebra.specs.View.{signed_view}
use Rattle.js_cells.specs.View.{cells_view}
use Rattle.js_objects.specs.Steps.{cells_by}
use Rattle.js_objects.proofs.LeafLaws.{ok-map}
use Rattle.js_objects.proofs.words.words_of_names.Goals as goal

pub first_words-requires-clause-count : goal.first_words-requires-clause-count
first_words-requires-clause-count c =
    subst (λ C. c.args.count ≤ length (C.words c.args.cell)) (sym c.in_ok-cells.ensures.cells) c.requires.count

pub returns : goal.returns
returns c =
    let T = c.args.core.now.positions in
    let S = map signed_view c.args.set.now in
    ok-map c.first_words.result (λ w. w ≡ take c.args.count ((cells_view c.in_ok-cells.cells).words c.args.cell))
    (λ w. w ≡ take c.args.count ((cells_by T S c.args.automaton.now).words c.args.cell))
    (λ w e. e ∙ ap (λ C. take c.args.count (C.words c.args.cell)) c.in_ok-cells.ensures.cells) c.first_words.ensures
