use Rattle.std.proofs.Common.{◌≡◌, map, drop}
use Rattle.documents.specs.Tests.{same_word}
use Rattle.std.specs.List.{filter_map}
use Rattle.documents.specs.Document.{elements}
use Rattle.normal_forms.specs.KeywordNodes.{once, word_in}
use Rattle.js_doc.specs.View.{view, list_view}
use Rattle.js_values.specs.Distinct.{add_all, words_of}
use Rattle.js_values.proofs.groups.words_in.Given as goal

abbrev pub invariant-loop-doc : goal.invariant-loop-doc
invariant-loop-doc l =
    once same_word (filter_map word_in (elements (list_view l.values)))
    ≡ add_all same_word (words_of l.words) (filter_map word_in (map view (drop l.doc-index l.doc-items)))
