-- The cells are those of the rows.
use Rattle.std.proofs.Common.{◌≡◌, ℕ, map, take, [], get_or, ap, sym, subst, ◌∙◌}
use Rattle.js_algebra.specs.View.{signed_view}
use Rattle.js_cells.specs.View.{cells_view}
use Rattle.js_objects.specs.Steps.{HasNeeded, cells_by}
use Rattle.js_objects.proofs.LeafLaws.{ok-map}
use Rattle.js_objects.proofs.words.words_by_cell.Goals as goal

pub needed_words-requires-clause-needs : goal.needed_words-requires-clause-needs
needed_words-requires-clause-needs c =
    subst (λ C. HasNeeded C c.args.needs.now) (sym c.in_ok-cells.ensures.cells) c.requires.needs

pub returns : goal.returns
returns c =
    let T = c.args.core.now.positions in
    let S = map signed_view c.args.set.now in
    ok-map c.needed_words.result
    (λ lists. (d : ℕ) → get_or lists.items d []
    ≡ take (get_or c.args.needs.now d 0) ((cells_view c.in_ok-cells.cells).words d))
    (λ lists. (d : ℕ) → get_or lists.items d []
    ≡ take (get_or c.args.needs.now d 0) ((cells_by T S c.args.automaton.now).words d))
    (λ lists e d. e d ∙ ap (λ C. take (get_or c.args.needs.now d 0) (C.words d)) c.in_ok-cells.ensures.cells)
    c.needed_words.ensures
