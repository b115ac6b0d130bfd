-- The word of the alternative of that number.
use Rattle.std.proofs.Common.{ap, ◌∙◌}
use Rattle.alternative_table.proofs.text.push_word.Goals as goal
use Rattle.js_expansion.proofs.TextWords.{names, one, there}

pub words-requires-clause-branch : goal.words-requires-clause-branch
words-requires-clause-branch g c =
    names (g.E.Expander.expansion c.args.expander.now c.args.goal.now) c.as_slice-alternatives.result.now
    (c.as_slice-alternatives.ensures ∙ ap (λ e. e.alternatives) c.requires.expansion) c.args.number
    c.index-alternatives-number.result c.if-number-alternatives.true

pub words-requires-clause-cell : goal.words-requires-clause-cell
words-requires-clause-cell g c =
    there (g.E.Expander.expansion c.args.expander.now c.args.goal.now) c.as_slice-alternatives.result.now
    (c.as_slice-alternatives.ensures ∙ ap (λ e. e.alternatives) c.requires.expansion) c.args.number
    c.index-alternatives-number.result c.if-number-alternatives.true
    (g.E.Expander.cells c.args.expander.now c.args.goal.now)
    (g.met.E.Expander.words_named c.args.expander.now c.args.goal.now c.requires.taken) _ c.in-Text.is

pub words-requires-clause-count : goal.words-requires-clause-count
words-requires-clause-count g c =
    one (g.E.Expander.expansion c.args.expander.now c.args.goal.now) c.as_slice-alternatives.result.now
    (c.as_slice-alternatives.ensures ∙ ap (λ e. e.alternatives) c.requires.expansion) c.args.number
    c.index-alternatives-number.result c.if-number-alternatives.true
    (g.E.Expander.cells c.args.expander.now c.args.goal.now)
    (g.met.E.Expander.words_named c.args.expander.now c.args.goal.now c.requires.taken) _ c.in-Text.is
