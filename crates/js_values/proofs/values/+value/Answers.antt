use Rattle.std.proofs.Common.{◌<◌, ◌≤◌, ◌∷◌, [], map, length, arith, sym, ap, ap₂, ◌∙◌}
use Rattle.std.proofs.lemmas.Result.{IfOk-equal}
use Rattle.documents.specs.Kind.{Array, Object}
use Rattle.documents.specs.Document.{elements}
use Rattle.positions.specs.Position.{True, All, Types, CountMin, CountMax, Has, MembersOf, Named}
use Rattle.normal_forms.specs.Nodes.{node, both, above, each, the_one}
use Rattle.normal_forms.specs.Values.{value_node, item_nodes, member_nodes, member_of, no_others, names_of, items_of}
use Rattle.js_doc.specs.View.{view, list_view, map_view, member_view}
use Rattle.js_algebra.specs.View.{kind_view, places}
use Rattle.js_values.specs.Runs.{run}
use Rattle.js_values.specs.MemberMaker.{member_maker}
use Rattle.js_values.proofs.RunLemmas.{run-two, run-both, above-made, each-step, each-end}
use Rattle.js_values.proofs.SinkLemmas.{items-made, members-made}
use Rattle.js_values.proofs.values.+value.Goals as goal

pub array_node-returns : goal.array_node-returns
array_node-returns t c =
    let n = length (elements (list_view c.args.list.now)) in
    let f = node (Types (Array ∷ [])) in
    let g = above items_of (both (item_nodes (list_view c.args.list.now)) (node True)) in
    let s0 = c.take_named-outer.new.self in
    let s1 = c.push.new.self in
    let s2 = c.elements_node.new.sink in
    let s3 = c.push-2.new.self in
    let s4 = c.push-3.new.self in
    let first = c.in_ok-push.ensures
    ∙ ap (λ ks. run (node (Types (map kind_view ks))) s0) c.in_ok-kinds.ensures in
    let least = c.in_ok-push-2.ensures ∙ ap (λ k. run (node (CountMin k)) s2) c.len.ensures in
    let most = c.in_ok-push-3.ensures ∙ ap (λ k. run (node (CountMax k)) s3) c.len-2.ensures in
    IfOk-equal c.push-4.result _ _ _ c.push-4.ensures
    (ap (λ ps. run (node (All (places ps))) c.swap_named-below.new.self) c.from_vec.ensures
    ∙ above-made All (both f (both g (both (node (CountMin n)) (node (CountMax n))))) c.args.sink.now s0 s4
    c.swap_named-below.new.self _ _ c.take_named-outer.ensures.named c.take_named-outer.ensures.rest
    (run-two f (both g (both (node (CountMin n)) (node (CountMax n)))) s0 s1 s4 first
    (run-two g (both (node (CountMin n)) (node (CountMax n))) s1 s2 s4 c.in_ok-elements_node.ensures
    (run-two (node (CountMin n)) (node (CountMax n)) s2 s3 s4 least most)))
    c.swap_named-below.ensures.named c.swap_named-below.ensures.rest)

pub elements_node-returns : goal.elements_node-returns
elements_node-returns t c =
    let f = item_nodes (list_view c.args.list.now) in
    let s0 = c.take_named-outer.new.self in
    let s2 = c.push.new.self in
    IfOk-equal c.push-2.result _ _ _ c.push-2.ensures
    (ap (λ P. run (node P) c.swap_named-below.new.self) c.items_of.ensures
    ∙ above-made items_of (both f (node True)) c.args.sink.now s0 s2 c.swap_named-below.new.self _ _
    c.take_named-outer.ensures.named c.take_named-outer.ensures.rest
    (run-two f (node True) s0 c.item_nodes.new.sink s2 c.in_ok-item_nodes.ensures c.in_ok-push.ensures)
    c.swap_named-below.ensures.named c.swap_named-below.ensures.rest)

pub item_nodes-loop-doc-preserved : goal.item_nodes-loop-doc-preserved
item_nodes-loop-doc-preserved t c =
    let within : c.loop-doc.doc-index < length c.as_slice-doc-items.result.now = omega arith in
    each-step value_node view c.as_slice-doc-items.result.now c.loop-doc.doc-index c.doc-item.result
    c.loop-doc.sink
    c.value_node.new.sink
    (run (each value_node (map view c.as_slice-doc-items.result.now))
    c.args.sink.now)
    within c.doc-item.is c.in_ok-value_node.ensures c.loop-doc.invariant

pub item_nodes-returns : goal.item_nodes-returns
item_nodes-returns t c =
    let past : length c.as_slice-doc-items.result.now ≤ c.loop-doc.doc-index = omega arith in
    let start = c.args.sink.now in
    items-made (map view c.as_slice-doc-items.result.now) (list_view c.args.list.now) start
    c.loop-doc.sink c.as_slice-doc-items.ensures.view
    (each-end value_node view c.as_slice-doc-items.result.now c.loop-doc.doc-index
    c.loop-doc.sink
    (run (each value_node (map view c.as_slice-doc-items.result.now)) start) past c.loop-doc.invariant)

pub object_node-returns : goal.object_node-returns
object_node-returns t c =
    let ms = map_view c.args.members.now in
    let f = node (Types (Object ∷ [])) in
    let s0 = c.take_named-outer.new.self in
    let s1 = c.push.new.self in
    let s2 = c.member_nodes.new.sink in
    let s3 = c.no_others.new.sink in
    let first = c.in_ok-push.ensures
    ∙ ap (λ ks. run (node (Types (map kind_view ks))) s0) c.in_ok-kinds.ensures in
    IfOk-equal c.push-2.result _ _ _ c.push-2.ensures
    (ap (λ ps. run (node (All (places ps))) c.swap_named-below.new.self) c.from_vec.ensures
    ∙ above-made All (both f (both (member_nodes ms) (no_others (names_of ms)))) c.args.sink.now s0 s3
    c.swap_named-below.new.self _ _ c.take_named-outer.ensures.named c.take_named-outer.ensures.rest
    (run-two f (both (member_nodes ms) (no_others (names_of ms))) s0 s1 s3 first
    (run-two (member_nodes ms) (no_others (names_of ms)) s1 s2 s3 c.in_ok-member_nodes.ensures
    c.in_ok-no_others.ensures))
    c.swap_named-below.ensures.named c.swap_named-below.ensures.rest)

pub member_nodes-loop-member-preserved : goal.member_nodes-loop-member-preserved
member_nodes-loop-member-preserved t c =
    let within : c.loop-member.member-index < length c.as_slice-member-items.result.now = omega arith in
    each-step member_maker member_view c.as_slice-member-items.result.now c.loop-member.member-index
    c.member-item.result
    c.loop-member.sink
    c.member_node.new.sink
    (run (each member_maker (map member_view c.as_slice-member-items.result.now))
    c.args.sink.now)
    within c.member-item.is c.in_ok-member_node.ensures c.loop-member.invariant

pub member_nodes-returns : goal.member_nodes-returns
member_nodes-returns t c =
    let past : length c.as_slice-member-items.result.now ≤ c.loop-member.member-index = omega arith in
    let start = c.args.sink.now in
    members-made (map member_view c.as_slice-member-items.result.now) (map_view c.args.members.now) start
    c.loop-member.sink c.as_slice-member-items.ensures.view
    (each-end member_maker member_view c.as_slice-member-items.result.now c.loop-member.member-index
    c.loop-member.sink
    (run (each member_maker (map member_view c.as_slice-member-items.result.now)) start) past
    c.loop-member.invariant)

pub member_node-returns : goal.member_node-returns
member_node-returns t c =
    let k = (member_view c.args.member.now).0 in
    let d = (member_view c.args.member.now).1 in
    let f = node (Has k) in
    let g = above (member_of k) (value_node d) in
    let s0 = c.args.sink.now in
    let s1 = c.push.new.self in
    let u = c.value_node.new.sink in
    let last = c.swap_named-below.new.self in
    let named_so = c.in_ok-push.ensures
    ∙ ap (λ w. run (node (Has w)) s0) (c.in_ok-copy.ensures ∙ c.name-name.ensures.view) in
    let made = c.in_ok-value_node.ensures
    ∙ ap (λ x. run (value_node x) c.take_named-outer.new.self) c.value.ensures.view in
    IfOk-equal c.push-2.result _ _ _ c.push-2.ensures
    (ap₂ (λ w q. run (node (MembersOf (Named w) q)) last) (c.in_ok-copy-2.ensures ∙ c.name-name.ensures.view)
    (c.the_one.ensures ∙ ap (λ ps. the_one (places ps)) c.as_slice.ensures.value)
    ∙ above-made (member_of k) (value_node d) s1 c.take_named-outer.new.self u last _ _
    c.take_named-outer.ensures.named c.take_named-outer.ensures.rest made c.swap_named-below.ensures.named
    c.swap_named-below.ensures.rest
    ∙ ap (run g) named_so ∙ sym (run-both f g s0))
