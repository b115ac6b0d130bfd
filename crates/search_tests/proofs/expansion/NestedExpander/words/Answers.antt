use Rattle.std.proofs.Common.{[], ◌∷◌, ◌++◌, ap₂, ◌∙◌}
use Rattle.search_tests.proofs.OneWord.{one_word}
use Rattle.search_tests.proofs.expansion.NestedExpander.words.Goals as goal

pub returns : goal.returns
returns c =
    c.from_vec-2.ensures ∙ c.in_ok-push.ensures.items
    ∙ ap₂ (λ xs x. xs ++ x ∷ []) c.new-words.ensures.items c.in_ok-from_text.ensures
    ∙ one_word c.args.cell c.args.count c.requires.cell c.requires.count c.if-count-eq0.false
