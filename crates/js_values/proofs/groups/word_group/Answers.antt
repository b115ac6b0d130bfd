use Rattle.std.proofs.Common.{◌≡◌, rules, length, sym, ap, ◌∙◌}
use Rattle.documents.specs.Tests.{same_word}
use Rattle.std.specs.List.{filter_map}
use Rattle.documents.specs.Kind.{Text}
use Rattle.documents.specs.Document.{elements}
use Rattle.positions.specs.Position.{Words}
use Rattle.normal_forms.specs.KeywordNodes.{once, word_in}
use Rattle.js_doc.specs.View.{list_view}
use Rattle.js_values.proofs.GroupLemmas.{no_kind}
use Rattle.js_values.proofs.groups.word_group.Goals as goal

pub returns-then-is_empty : goal.returns-then-is_empty
returns-then-is_empty c =
    let none : length c.as_slice.result.now ≡ 0 = search rules in
    let ds = elements (list_view c.args.values.now) in
    no_kind Text Words (once same_word (filter_map word_in ds)) c.in_ok-words.words c.args.sink.now
    (sym (ap length c.as_slice.ensures) ∙ none) c.in_ok-words.ensures
