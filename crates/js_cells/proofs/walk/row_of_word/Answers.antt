use Rattle.std.proofs.Common.{◌≡◌, true, sym, subst, ◌∙◌}
use Rattle.std.specs.List.{list_all}
use Rattle.patterns.specs.CharSet.{is_scalar}
use Rattle.js_cells.proofs.TruthLaws.{text_word}
use Rattle.js_cells.proofs.walk.row_of_word.Goals as goal

pub row_after-requires-clause-word : goal.row_after-requires-clause-word
row_after-requires-clause-word c =
    subst (λ z. list_all is_scalar z ≡ true) (sym (c.as_slice.ensures.value ∙ c.in_ok-characters.ensures))
    (text_word c.as_text.result.now c.as_text.utf8)

pub returns-clause-word : goal.returns-clause-word
returns-clause-word c =
    subst (λ z. list_all is_scalar z ≡ true) c.as_text.ensures.text
    (text_word c.as_text.result.now c.as_text.utf8)
