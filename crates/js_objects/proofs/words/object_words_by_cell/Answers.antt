-- The cells that are found are those of the rows.
use Rattle.std.proofs.Common.{◌≡◌, ℕ, Ok, [], map, take, true, get_or, ap, sym, subst, ◌∙◌}
use Rattle.cells.specs.Cells.{Cells}
use Rattle.finders.specs.Names.{cells_of}
use Rattle.js_algebra.specs.View.{signed_view, are_in_table}
use Rattle.js_objects.specs.Steps.{HasNeeded, cells_by}
use Rattle.js_objects.proofs.LeafLaws.{same-cells, ok-map}
use Rattle.js_objects.proofs.words.object_words_by_cell.Goals as goal

pub words_by_cell-requires-clause-in_table : goal.words_by_cell-requires-clause-in_table
words_by_cell-requires-clause-in_table c =
    subst (λ z. are_in_table c.args.core.now.positions z ≡ true) (sym c.as_slice-set.ensures) c.requires.in_table

pub words_by_cell-requires-clause-needs : goal.words_by_cell-requires-clause-needs
words_by_cell-requires-clause-needs c =
    let (C, e, n) = c.requires.found in
    subst (λ D. HasNeeded D c.args.needs.now)
    (same-cells c.args.core.now.positions c.args.branch.now.set (map signed_view c.as_slice-set.result.now)
    c.in-Ok.automaton.now c.as_slice-set.ensures c.in-Ok.ensures.names C e) n

pub returns-in-Ok : goal.returns-in-Ok
returns-in-Ok c =
    let T = c.args.core.now.positions in
    let S = c.args.branch.now.set in
    let X = map signed_view c.as_slice-set.result.now in
    record {
      words = ok-map c.words_by_cell.result
          (λ lists. (d : ℕ) → get_or lists.items d []
          ≡ take (get_or c.args.needs.now d 0) ((cells_by T X c.in-Ok.automaton.now).words d))
          (λ lists. (C : Cells) → cells_of T S ≡ Ok C
          → (d : ℕ) → get_or lists.items d [] ≡ take (get_or c.args.needs.now d 0) (C.words d))
          (λ lists h C e d. h d ∙ ap (λ D. take (get_or c.args.needs.now d 0) (D.words d))
          (sym (same-cells T S X c.in-Ok.automaton.now c.as_slice-set.ensures c.in-Ok.ensures.names C e)))
          c.words_by_cell.ensures;
    }
