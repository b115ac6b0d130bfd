use Rattle.std.proofs.Common.{filter}
use Rattle.std.proofs.lemmas.Result.{IfOk-equal}
use Rattle.std.specs.List.{filter_map}
use Rattle.std.specs.Ordering.{int_eq}
use Rattle.documents.specs.Tests.{same_word}
use Rattle.documents.specs.Kind.{Number, Text}
use Rattle.documents.specs.Document.{elements}
use Rattle.positions.specs.Position.{NumIn, Words}
use Rattle.normal_forms.specs.Nodes.{both, each}
use Rattle.normal_forms.specs.Values.{value_node}
use Rattle.normal_forms.specs.KeywordNodes.{once, number_in, word_in, is_container, one_of_kind}
use Rattle.js_doc.specs.View.{list_view}
use Rattle.js_values.specs.GroupMakers.{null_maker, truth_maker}
use Rattle.js_values.proofs.RunLemmas.{chain-end, chain}
use Rattle.js_values.proofs.groups.group_nodes.Goals as goal

pub returns : goal.returns
returns c =
    let ds = elements (list_view c.args.values.now) in
    let numbers = one_of_kind Number NumIn (once int_eq (filter_map number_in ds)) in
    let words = one_of_kind Text Words (once same_word (filter_map word_in ds)) in
    let rest = each value_node (filter is_container ds) in
    IfOk-equal c.containers.result _ _ _ c.containers.ensures
    (chain _ _ _ (null_maker ds) (both (truth_maker ds) (both numbers (both words rest))) c.in_ok-null_group.ensures
    (chain _ _ _ (truth_maker ds) (both numbers (both words rest)) c.in_ok-truth_group.ensures
    (chain _ _ _ numbers (both words rest) c.in_ok-number_group.ensures
    (chain-end _ _ words rest c.in_ok-word_group.ensures))))
