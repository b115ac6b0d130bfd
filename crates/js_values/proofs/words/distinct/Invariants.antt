use Rattle.std.proofs.Common.{◌≡◌, drop}
use Rattle.documents.specs.Tests.{same_word}
use Rattle.normal_forms.specs.KeywordNodes.{once}
use Rattle.js_values.specs.Distinct.{add_all, words_of}
use Rattle.js_values.proofs.words.distinct.Given as goal

abbrev pub invariant-loop-word : goal.invariant-loop-word
invariant-loop-word l =
    once same_word l.words ≡ add_all same_word (words_of l.kept) (drop l.word-index l.word-items)
