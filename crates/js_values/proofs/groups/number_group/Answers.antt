use Rattle.std.proofs.Common.{◌≡◌, rules, length, sym, ap, ◌∙◌}
use Rattle.std.specs.Ordering.{int_eq}
use Rattle.std.specs.List.{filter_map}
use Rattle.documents.specs.Kind.{Number}
use Rattle.documents.specs.Document.{elements}
use Rattle.positions.specs.Position.{NumIn}
use Rattle.normal_forms.specs.KeywordNodes.{once, number_in}
use Rattle.js_doc.specs.View.{list_view}
use Rattle.js_values.proofs.GroupLemmas.{no_kind}
use Rattle.js_values.proofs.groups.number_group.Goals as goal

pub returns-then-is_empty : goal.returns-then-is_empty
returns-then-is_empty c =
    let none : length c.as_slice.result.now ≡ 0 = search rules in
    let ds = elements (list_view c.args.values.now) in
    no_kind Number NumIn (once int_eq (filter_map number_in ds)) c.in_ok-numbers.numbers c.args.sink.now
    (sym (ap length c.as_slice.ensures) ∙ none) c.in_ok-numbers.ensures
