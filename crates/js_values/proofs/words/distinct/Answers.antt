use Rattle.std.proofs.Common.{ap, sym, ◌∙◌}
use Rattle.documents.specs.Tests.{same_word}
use Rattle.normal_forms.specs.KeywordNodes.{once}
use Rattle.js_values.specs.Distinct.{add_all}
use Rattle.js_values.proofs.OnceLaws.{add_all-once}
use Rattle.js_values.proofs.words.distinct.Goals as goal

pub loop-word-init : goal.loop-word-init
loop-word-init c =
    ap (once same_word) (sym c.as_slice-word-items.ensures)
    ∙ sym (add_all-once same_word c.as_slice-word-items.result.now)
    ∙ ap (λ ks. add_all same_word ks c.as_slice-word-items.result.now) (sym c.new-kept.ensures)
