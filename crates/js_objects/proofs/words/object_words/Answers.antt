-- The cells that are found are those of the rows.
use Rattle.std.proofs.Common.{◌≡◌, ◌<◌, ◌≤◌, Ok, map, take, true, length, ap, sym, subst, ◌∙◌}
use Rattle.cells.specs.Cells.{Cells}
use Rattle.finders.specs.Names.{cells_of}
use Rattle.js_algebra.specs.View.{signed_view, are_in_table}
use Rattle.js_objects.specs.Steps.{cells_by}
use Rattle.js_objects.proofs.LeafLaws.{same-cells, ok-map}
use Rattle.js_objects.proofs.words.object_words.Goals as goal

pub words_of_names-requires-clause-in_table : goal.words_of_names-requires-clause-in_table
words_of_names-requires-clause-in_table c =
    subst (λ z. are_in_table c.args.core.now.positions z ≡ true) (sym c.as_slice-set.ensures) c.requires.in_table

pub words_of_names-requires-clause-cell : goal.words_of_names-requires-clause-cell
words_of_names-requires-clause-cell c =
    let (C, e, l, n) = c.requires.found in
    subst (λ D. c.args.cell < length D.vectors)
    (same-cells c.args.core.now.positions c.args.branch.now.set (map signed_view c.as_slice-set.result.now)
    c.in-Ok.automaton.now c.as_slice-set.ensures c.in-Ok.ensures.names C e) l

pub words_of_names-requires-clause-count : goal.words_of_names-requires-clause-count
words_of_names-requires-clause-count c =
    let (C, e, l, n) = c.requires.found in
    subst (λ D. c.args.count ≤ length (D.words c.args.cell))
    (same-cells c.args.core.now.positions c.args.branch.now.set (map signed_view c.as_slice-set.result.now)
    c.in-Ok.automaton.now c.as_slice-set.ensures c.in-Ok.ensures.names C e) n

pub returns-in-Ok : goal.returns-in-Ok
returns-in-Ok c =
    let T = c.args.core.now.positions in
    let S = c.args.branch.now.set in
    let X = map signed_view c.as_slice-set.result.now in
    record {
      words = ok-map c.words_of_names.result
          (λ w. w ≡ take c.args.count ((cells_by T X c.in-Ok.automaton.now).words c.args.cell))
          (λ w. (C : Cells) → cells_of T S ≡ Ok C → w ≡ take c.args.count (C.words c.args.cell))
          (λ w h C e. h ∙ ap (λ D. take c.args.count (D.words c.args.cell))
          (sym (same-cells T S X c.in-Ok.automaton.now c.as_slice-set.ensures c.in-Ok.ensures.names C e)))
          c.words_of_names.ensures;
    }
