-- Nothing is past the end.
use Rattle.std.proofs.Common.{◌≡◌, ◌≤◌, length, [], get_or, rules, ap, ◌∙◌}
use Rattle.std.proofs.lemmas.Option.{get_or_from_slice_get}
use Rattle.alternatives.specs.Slots.{word_at}
use Rattle.js_rounds.proofs.Members.{empty_name, none_there}
use Rattle.js_rounds.proofs.names.word.Goals as goal

pub returns-in-None-get : goal.returns-in-None-get
returns-in-None-get c =
    let list : get_or c.args.lists.now c.args.cell [] ≡ c.in-Some.list.now = search (rules, get_or_from_slice_get) in
    let past : length c.in-Some.list.now ≤ c.args.place = search rules in
    empty_name c.from_text.result (word_at c.args.lists.now c.args.cell c.args.place)
    (ap (λ z. get_or z c.args.place []) list ∙ none_there c.in-Some.list.now c.args.place [] past) c.from_text.ensures

pub returns-in-None : goal.returns-in-None
returns-in-None c =
    let past : length c.args.lists.now ≤ c.args.cell = search rules in
    empty_name c.from_text-in-None.result (word_at c.args.lists.now c.args.cell c.args.place)
    (ap (λ z. get_or z c.args.place []) (none_there c.args.lists.now c.args.cell [] past)) c.from_text-in-None.ensures
