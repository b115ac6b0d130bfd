-- The words of the cells of a branch.
use Rattle.std.proofs.Common.{◌≡◌, ◌≤◌, suc, [], get_or, take, sym, ap, ◌∙◌, subst}
use Rattle.alternatives.specs.Slots.{capacity, cell_at}
use Rattle.js_algebra.specs.View.{kind_view}
use Rattle.js_expander.specs.Found.{cells_at}
use Rattle.js_expander.proofs.Words.{there, several, some_first, none_first, needed, lists_told}
use Rattle.js_expander.proofs.core_expander.CoreExpanderExpander.words_by_cell.Goals as goal

pub first_cell-requires-clause-need : goal.first_cell-requires-clause-need
first_cell-requires-clause-need c =
    let T = c.args.self.now.core.now.positions in
    subst (λ n. n
    ≤ capacity (cell_at (cells_at T c.args.goal.now (kind_view c.args.branch.kind) c.args.branch.number) 0))
    (sym (some_first c.args.needs.now c.in-Some.need.now c.in-Some.ensures.value)) (c.requires.needs 0)

pub returns-in_ok-vec-in-Some : goal.returns-in_ok-vec-in-Some
returns-in_ok-vec-in-Some c =
    let T = c.args.self.now.core.now.positions in
    let cells = cells_at T c.args.goal.now (kind_view c.args.branch.kind) c.args.branch.number in
    several T c.args.goal.now c.args.branch.number (kind_view c.args.branch.kind) (ap kind_view c.in-Text.is)
    c.requires.branch c.args.needs.now c.in_ok-vec-in-Some.field-0.items
    (ap (λ l. get_or l 0 []) c.in_ok-vec-in-Some.ensures.items
    ∙ c.in_ok-words-in-Some.ensures
    ∙ ap (λ n. take n (cell_at cells 0)) (some_first c.args.needs.now c.in-Some.need.now c.in-Some.ensures.value))
    (λ d. ap (λ l. get_or l (suc d) []) c.in_ok-vec-in-Some.ensures.items)

pub returns-in-None : goal.returns-in-None
returns-in-None c =
    let T = c.args.self.now.core.now.positions in
    let cells = cells_at T c.args.goal.now (kind_view c.args.branch.kind) c.args.branch.number in
    several T c.args.goal.now c.args.branch.number (kind_view c.args.branch.kind) (ap kind_view c.in-Text.is)
    c.requires.branch c.args.needs.now c.new.result.items
    (ap (λ l. get_or l 0 []) c.new.ensures.items
    ∙ sym (ap (λ n. take n (cell_at cells 0)) (none_first c.args.needs.now c.in-None.ensures.value)))
    (λ d. ap (λ l. get_or l (suc d) []) c.new.ensures.items)

pub branch_set-requires-clause-there : goal.branch_set-requires-clause-there
branch_set-requires-clause-there c =
    there c.args.self.now.core.now.positions c.args.goal.now c.args.branch.number (kind_view c.args.branch.kind)
    c.requires.branch

pub object_words_by_cell-requires-clause-found : goal.object_words_by_cell-requires-clause-found
object_words_by_cell-requires-clause-found c =
    let (C, same, has, words) =
    needed c.args.self.now.core.now.positions c.args.goal.now c.args.branch.number
    (kind_view c.args.branch.kind) (ap kind_view c.in-Object.is) _ c.in_ok-set-in-Object.ensures.set
    c.requires.branch c.args.needs.now c.requires.needs in
    (C, same, has)

pub returns-in_ok-set-in-Object : goal.returns-in_ok-set-in-Object
returns-in_ok-set-in-Object c =
    let T = c.args.self.now.core.now.positions in
    let (C, same, has, words) =
    needed T c.args.goal.now c.args.branch.number
    (kind_view c.args.branch.kind) (ap kind_view c.in-Object.is) _ c.in_ok-set-in-Object.ensures.set
    c.requires.branch c.args.needs.now c.requires.needs in
    lists_told c.object_words_by_cell.result (λ v. v.items) T c.in_ok-set-in-Object.set c.args.needs.now
    (cells_at T c.args.goal.now (kind_view c.args.branch.kind) c.args.branch.number) C same words
    c.object_words_by_cell.ensures.words
