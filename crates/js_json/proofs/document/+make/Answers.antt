use Rattle.std.proofs.Common.{◌≡◌, [], ◌+◌, map, drop, subst, sym, ap, ◌∙◌}
use Rattle.std.proofs.lemmas.List.{take_all, at_drop_all}
use Rattle.documents.specs.Json.{items_of, members_of}
use Rattle.js_doc.specs.View as V
use Rattle.js_doc.specs.JsonView.{view, map_view, member_view}
use Rattle.js_doc.proofs.JsonWellFormed.{are_members-map_view}
use Rattle.js_json.specs.Documents.{json_of_document, json_of_items, json_of_members, unwhole_places, places_in_items, places_in_members}
use Rattle.js_json.specs.Making.{TellsFirst}
use Rattle.js_json.proofs.DocumentsLemmas.{json_of_member, json_of_items-items_of, json_of_members-members_of, places_in_items-drop, places_in_members-drop, made_more, names_rise-made}
use Rattle.js_json.proofs.document.+make.Goals as goal

pub make_items-loop-i-preserved : goal.make_items-loop-i-preserved
make_items-loop-i-preserved t c =
    let item = c.index-items-i.result in
    let places = places_in_items-drop _ c.loop-i.i item c.loop-i-test.true c.index-items-i.is in
    let none = c.in-Ok.ensures.1 in (
      made_more (λ d. json_of_document (V.view d)) view _ _ _ c.loop-i.i item c.in-Ok.doc c.loop-i-test.true
          c.index-items-i.is c.in_ok-push-in-Ok.ensures.items c.in-Ok.ensures.0 c.loop-i.invariant.0,
      sym (rw none at places) ∙ c.loop-i.invariant.1,
    )

pub make_items-returns-in-Err : goal.make_items-returns-in-Err
make_items-returns-in-Err t c =
    let places = places_in_items-drop _ c.loop-i.i c.index-items-i.result c.loop-i-test.true c.index-items-i.is in
    let all = sym places ∙ c.loop-i.invariant.1 ∙ ap (places_in_items 0) c.as_slice-items.ensures.view in
    subst (λ ps. TellsFirst ps c.in_element.result) all (c.in_element.ensures _ _ c.in-Err.ensures)

pub make_items-returns : goal.make_items-returns
make_items-returns t c =
    let items = c.as_slice-items.result.now in
    let i = c.loop-i.i in
    let all = take_all i items c.loop-i-test.false in (
      ap json_of_items c.from_vec.ensures ∙ json_of_items-items_of _
          ∙ ap items_of (c.loop-i.invariant.0 ∙ ap (map view) all) ∙ c.as_slice-items.ensures.view,
      sym (c.loop-i.invariant.1 ∙ ap (places_in_items 0) c.as_slice-items.ensures.view)
          ∙ at_drop_all (λ xs. places_in_items i (items_of (map view xs))) items i c.loop-i-test.false,
    )

pub make_members-loop-member-preserved : goal.make_members-loop-member-preserved
make_members-loop-member-preserved t c =
    let member = c.member-item.result in
    let i = c.loop-member.member-index in
    let places = places_in_members-drop _ i member c.loop-member-test.true c.member-item.is in
    let none : unwhole_places (member_view member).1 ≡ [] =
    ap unwhole_places (sym c.value.ensures.view) ∙ c.in-Ok.ensures.1 in
    let named = c.in_ok-copy-in-Ok.ensures ∙ c.name-name.ensures.view in
    let valued = c.in-Ok.ensures.0 ∙ c.value.ensures.view in
    let same : json_of_member c.new.result ≡ member_view member =
    ap (λ p. (p.0, json_of_document p.1)) c.new.ensures ∙ (λ i. (named i, valued i)) in (
      made_more json_of_member member_view _ _ _ i member c.new.result c.loop-member-test.true c.member-item.is
          c.in_ok-push-in-Ok.ensures.items same c.loop-member.invariant.0,
      sym (rw none at places) ∙ c.loop-member.invariant.1,
    )

pub make_members-returns-in-Err : goal.make_members-returns-in-Err
make_members-returns-in-Err t c =
    let member = c.member-item.result in
    let i = c.loop-member.member-index in
    let places = places_in_members-drop _ i member c.loop-member-test.true c.member-item.is in
    let all = sym places ∙ c.loop-member.invariant.1 ∙ ap places_in_members c.as_slice-members.ensures.view in
    let later = places_in_members (members_of (map member_view (drop (i + 1) c.as_slice-members.result.now))) in
    let named = c.in_member.ensures _ later c.in-Err.ensures in
    let told = rw (c.name-name.ensures.view, c.value.ensures.view) at named in
    subst (λ ps. TellsFirst ps c.in_member.result) all told

pub make_members-from_vec-requires : goal.make_members-from_vec-requires
make_members-from_vec-requires t c =
    let members = c.as_slice-members.result.now in
    let all = take_all c.loop-member.member-index members c.loop-member-test.false in
    names_rise-made _ (map_view c.args.map.now)
    (ap members_of (c.loop-member.invariant.0 ∙ ap (map member_view) all) ∙ c.as_slice-members.ensures.view)
    (are_members-map_view c.args.map.now)

pub make_members-returns : goal.make_members-returns
make_members-returns t c =
    let members = c.as_slice-members.result.now in
    let i = c.loop-member.member-index in
    let all = take_all i members c.loop-member-test.false in (
      ap json_of_members c.from_vec.ensures ∙ json_of_members-members_of _
          ∙ ap members_of (c.loop-member.invariant.0 ∙ ap (map member_view) all) ∙ c.as_slice-members.ensures.view,
      sym (c.loop-member.invariant.1 ∙ ap places_in_members c.as_slice-members.ensures.view)
          ∙ at_drop_all (λ xs. places_in_members (members_of (map member_view xs))) members i c.loop-member-test.false,
    )
