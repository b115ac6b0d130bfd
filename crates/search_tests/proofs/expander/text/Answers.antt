-- The word of the alternative that was chosen.
use Rattle.std.proofs.Common.{ap, ◌∙◌}
use Rattle.search_tests.proofs.expander.text.Goals as goal
use Rattle.js_expansion.proofs.TextWords.{names, one, there}

pub words-requires-clause-branch : goal.words-requires-clause-branch
words-requires-clause-branch g c =
    names (g.E.Expander.expansion c.args.expander.now c.args.goal.now) c.as_slice-alternatives.result.now
    (c.as_slice-alternatives.ensures ∙ ap (λ e. e.alternatives) c.in_ok-expansion.ensures) c.args.index
    c.index-alternatives-index.result c.if-index-alternatives.true

pub words-requires-clause-cell : goal.words-requires-clause-cell
words-requires-clause-cell g c =
    there (g.E.Expander.expansion c.args.expander.now c.args.goal.now) c.as_slice-alternatives.result.now
    (c.as_slice-alternatives.ensures ∙ ap (λ e. e.alternatives) c.in_ok-expansion.ensures) c.args.index
    c.index-alternatives-index.result c.if-index-alternatives.true
    (g.E.Expander.cells c.args.expander.now c.args.goal.now)
    (g.met.E.Expander.words_named c.args.expander.now c.args.goal.now c.requires) _ c.in-Text.is

pub words-requires-clause-count : goal.words-requires-clause-count
words-requires-clause-count g c =
    one (g.E.Expander.expansion c.args.expander.now c.args.goal.now) c.as_slice-alternatives.result.now
    (c.as_slice-alternatives.ensures ∙ ap (λ e. e.alternatives) c.in_ok-expansion.ensures) c.args.index
    c.index-alternatives-index.result c.if-index-alternatives.true
    (g.E.Expander.cells c.args.expander.now c.args.goal.now)
    (g.met.E.Expander.words_named c.args.expander.now c.args.goal.now c.requires) _ c.in-Text.is
