-- What is needed of a cell is there, and is what runs need of it.
use Rattle.std.proofs.Common.{◌≡◌, ◌≤◌, length, [], get_or, ap, sym, ◌∙◌, subst, rules}
use Rattle.alternatives.specs.Slots.{capacity, cell_at}
use Rattle.js_algebra.specs.View.{kind_view}
use Rattle.js_rounds.proofs.Needs.{wanted_room, words_told, none_needed}
use Rattle.js_rounds.proofs.names.words_of.Goals as goal

pub words_by_cell-requires-clause-needs : goal.words_by_cell-requires-clause-needs
words_by_cell-requires-clause-needs g c d =
    let cells = g.E.Expander.cells c.args.expander.now c.args.goal.now (kind_view c.args.branch.kind)
    c.args.branch.number in
    subst (λ n. n ≤ capacity (cell_at cells d))
    (sym (ap (λ l. get_or l d 0) c.deref.ensures.value ∙ c.in_ok-needs.ensures.needs d))
    (wanted_room cells c.args.runs.now d c.requires.room)

pub returns-then-is_empty : goal.returns-then-is_empty
returns-then-is_empty g c d =
    let cells = g.E.Expander.cells c.args.expander.now c.args.goal.now (kind_view c.args.branch.kind)
    c.args.branch.number in
    let none : length c.in_ok-needs.needs.items ≡ 0 = search rules in
    ap (λ l. get_or l d []) c.new.ensures.items
    ∙ none_needed cells c.in_ok-needs.needs.items c.args.runs.now none c.in_ok-needs.ensures.needs d

pub returns : goal.returns
returns g c =
    words_told (g.E.Expander.cells c.args.expander.now c.args.goal.now (kind_view c.args.branch.kind)
    c.args.branch.number) c.words_by_cell.result (λ v. v.items) c.deref.result.now c.args.runs.now
    (λ d. ap (λ l. get_or l d 0) c.deref.ensures.value ∙ c.in_ok-needs.ensures.needs d) c.words_by_cell.ensures
