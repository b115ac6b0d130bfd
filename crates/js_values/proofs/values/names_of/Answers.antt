use Rattle.std.proofs.Common.{◌≤◌, map, length, arith, ap, ◌∙◌}
use Rattle.std.proofs.lemmas.List.{take_all}
use Rattle.js_doc.specs.View.{member_view, map_view}
use Rattle.js_values.proofs.SinkLemmas.{names-entries}
use Rattle.js_values.proofs.values.names_of.Goals as goal

pub returns : goal.returns
returns c =
    let items = c.as_slice-member-items.result.now in
    let past : length items ≤ c.loop-member.member-index = omega arith in
    c.from_vec.ensures ∙ c.loop-member.invariant
    ∙ ap (map (λ m. (member_view m).0)) (take_all c.loop-member.member-index items past)
    ∙ names-entries items (map_view c.args.members.now) c.as_slice-member-items.ensures.view
