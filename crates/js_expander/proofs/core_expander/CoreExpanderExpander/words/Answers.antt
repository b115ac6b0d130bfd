-- The words of a branch.
use Rattle.std.proofs.Common.{◌≡◌, ℕ, List, Some, Ok, take, sym, ap, subst}
use Rattle.alternatives.specs.Slots.{cell_at}
use Rattle.finders.specs.Strings.{strings_of}
use Rattle.js_algebra.specs.View.{kind_view}
use Rattle.js_expander.specs.Found.{cells_at}
use Rattle.js_expander.specs.Laws.{inside}
use Rattle.js_expander.proofs.Words.{told, there, found, cell, count, words, object_named, object_told}
use Rattle.js_expander.proofs.core_expander.CoreExpanderExpander.words.Goals as goal

pub branch_set-requires-clause-in_table : goal.branch_set-requires-clause-in_table
branch_set-requires-clause-in_table c =
    let core = c.args.self.now.core.now in inside core.positions core.ranks c.args.goal.now c.requires.taken

pub branch_set-requires-clause-there : goal.branch_set-requires-clause-there
branch_set-requires-clause-there c =
    there c.args.self.now.core.now.positions c.args.goal.now c.args.branch.number (kind_view c.args.branch.kind)
    c.requires.branch

pub string_words-requires-clause-found : goal.string_words-requires-clause-found
string_words-requires-clause-found c =
    let T = c.args.self.now.core.now.positions in
    subst (λ S. (w : List ℕ) × (strings_of T S ≡ Ok (Some w))) (sym c.in_ok-set-in-Text.ensures.set)
    (found T c.args.goal.now c.args.branch.number (kind_view c.args.branch.kind) (ap kind_view c.in-Text.is)
    c.requires.branch)

pub string_words-requires-clause-cell : goal.string_words-requires-clause-cell
string_words-requires-clause-cell c =
    cell c.args.self.now.core.now.positions c.args.goal.now c.args.branch.number (kind_view c.args.branch.kind)
    (ap kind_view c.in-Text.is) c.requires.branch c.args.cell c.requires.cell

pub string_words-requires-clause-count : goal.string_words-requires-clause-count
string_words-requires-clause-count c =
    count c.args.self.now.core.now.positions c.args.goal.now c.args.branch.number (kind_view c.args.branch.kind)
    (ap kind_view c.in-Text.is) c.requires.branch c.args.cell c.args.count c.requires.cell c.requires.count

pub returns-in_ok-set-in-Text : goal.returns-in_ok-set-in-Text
returns-in_ok-set-in-Text c =
    let T = c.args.self.now.core.now.positions in
    told c.string_words.result _
    (take c.args.count (cell_at (cells_at T c.args.goal.now (kind_view c.args.branch.kind) c.args.branch.number)
    c.args.cell))
    (words T c.args.goal.now c.args.branch.number (kind_view c.args.branch.kind) (ap kind_view c.in-Text.is)
    c.requires.branch c.args.cell c.args.count c.requires.cell _ c.in_ok-set-in-Text.ensures.set)
    c.string_words.ensures.words

pub branch_set-requires-in-Object-clause-in_table : goal.branch_set-requires-in-Object-clause-in_table
branch_set-requires-in-Object-clause-in_table c =
    let core = c.args.self.now.core.now in inside core.positions core.ranks c.args.goal.now c.requires.taken

pub branch_set-requires-in-Object-clause-there : goal.branch_set-requires-in-Object-clause-there
branch_set-requires-in-Object-clause-there c =
    there c.args.self.now.core.now.positions c.args.goal.now c.args.branch.number (kind_view c.args.branch.kind)
    c.requires.branch

pub object_words-requires-clause-found : goal.object_words-requires-clause-found
object_words-requires-clause-found c =
    let (C, same, cell, count, words) =
    object_named c.args.self.now.core.now.positions c.args.goal.now c.args.branch.number
    (kind_view c.args.branch.kind) (ap kind_view c.in-Object.is) _ c.in_ok-set-in-Object.ensures.set c.requires.branch
    c.args.cell c.args.count c.requires.cell c.requires.count in
    (C, same, cell, count)

pub returns-in_ok-set-in-Object : goal.returns-in_ok-set-in-Object
returns-in_ok-set-in-Object c =
    let T = c.args.self.now.core.now.positions in
    let (C, same, cell, count, words) =
    object_named T c.args.goal.now c.args.branch.number
    (kind_view c.args.branch.kind) (ap kind_view c.in-Object.is) _ c.in_ok-set-in-Object.ensures.set c.requires.branch
    c.args.cell c.args.count c.requires.cell c.requires.count in
    object_told c.object_words.result T c.in_ok-set-in-Object.set c.args.cell c.args.count
    (take c.args.count (cell_at (cells_at T c.args.goal.now (kind_view c.args.branch.kind) c.args.branch.number)
    c.args.cell))
    C same (ap (take c.args.count) words) c.object_words.ensures.words
