use Rattle.std.proofs.Common.{◌<◌, map, length, arith, sym, ap, ◌∙◌}
use Rattle.documents.specs.Tests.{same_word}
use Rattle.std.specs.List.{filter_map}
use Rattle.documents.specs.Document.{elements}
use Rattle.normal_forms.specs.KeywordNodes.{once, word_in}
use Rattle.js_doc.specs.View.{view, list_view}
use Rattle.js_doc.proofs.Levels.{elements-of}
use Rattle.js_values.specs.Distinct.{add_all, words_of}
use Rattle.js_values.proofs.OnceLaws.{add_all-once, added-step}
use Rattle.js_values.proofs.groups.words_in.Goals as goal

pub loop-doc-init : goal.loop-doc-init
loop-doc-init c =
    ap (λ ds. once same_word (filter_map word_in ds))
    (elements-of (map view c.as_slice-doc-items.result.now) (list_view c.args.values.now)
    c.as_slice-doc-items.ensures.view)
    ∙ sym (add_all-once same_word (filter_map word_in (map view c.as_slice-doc-items.result.now)))
    ∙ ap (λ ks. add_all same_word ks (filter_map word_in (map view c.as_slice-doc-items.result.now)))
    (sym c.new-words.ensures)

pub loop-doc-preserved : goal.loop-doc-preserved
loop-doc-preserved c =
    let within : c.loop-doc.doc-index < length c.as_slice-doc-items.result.now = omega arith in
    added-step same_word word_in view c.as_slice-doc-items.result.now c.loop-doc.doc-index c.doc-item.result
    (words_of c.loop-doc.words) (words_of c.add_word.new.words)
    (once same_word (filter_map word_in (elements (list_view c.args.values.now))))
    within c.doc-item.is c.in_ok-add_word.ensures c.loop-doc.invariant
