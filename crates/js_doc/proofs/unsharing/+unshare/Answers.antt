use Rattle.std.proofs.Common.{rules, length, map, ap, ◌∙◌, arith}
use Rattle.documents.specs.Document as D
use Rattle.shared_documents.specs.Unshared.{unshared}
use Rattle.js_doc.specs.PartMembers.{number_of}
use Rattle.js_doc.specs.declared.document.Doc as DD
use Rattle.js_doc.specs.declared.parts.Part.TheVariants as V
use Rattle.js_doc.proofs.NumbersAbove.{mapped-above_all, above_all-below}
use Rattle.js_doc.proofs.PartTables.{elements_below, members_below, unshared-part, member-above_all, all_numbers, all_members, all_members-rise}
use Rattle.js_doc.proofs.Containers.{view-List, view-Members}
use Rattle.js_doc.proofs.unsharing.+unshare.Goals as goal

pub unshare-unshare_list-requires : goal.unshare-unshare_list-requires
unshare-unshare_list-requires t c =
    let below = elements_below c.args.id.0 (length c.args.parts.now) c.get.result.now c.in-List.ids c.get.ensures.part
    c.requires c.in-List.is in
    (omega (arith, c.decreases, below.least), below.inside)

pub unshare-unshare_members-requires : goal.unshare-unshare_members-requires
unshare-unshare_members-requires t c =
    let below = members_below c.args.id.0 (length c.args.parts.now) c.get.result.now c.in-Members.members
    c.get.ensures.part c.requires c.in-Members.is in
    (omega (arith, c.decreases, below.least), below.inside)

pub unshare-returns-in-Null : goal.unshare-returns-in-Null
unshare-returns-in-Null t c =
    let is = unshared-part c.args.parts.now c.args.id.0 c.get.result.now V.Null c.get.ensures.table c.requires
    c.get.ensures.value c.in-Null.is in
    search (rules, DD.the_lemmas, is)

pub unshare-returns-in-Bool : goal.unshare-returns-in-Bool
unshare-returns-in-Bool t c =
    let is = unshared-part c.args.parts.now c.args.id.0 c.get.result.now (V.Bool c.in-Bool.b) c.get.ensures.table
    c.requires c.get.ensures.value c.in-Bool.is in
    search (rules, DD.the_lemmas, is)

pub unshare-returns-in-Num : goal.unshare-returns-in-Num
unshare-returns-in-Num t c =
    let is = unshared-part c.args.parts.now c.args.id.0 c.get.result.now (V.Num c.in-Num.n) c.get.ensures.table
    c.requires c.get.ensures.value c.in-Num.is in
    search (rules, DD.the_lemmas, is)

pub unshare-returns-in_ok-copy-in-Text : goal.unshare-returns-in_ok-copy-in-Text
unshare-returns-in_ok-copy-in-Text t c =
    let is = unshared-part c.args.parts.now c.args.id.0 c.get.result.now (V.Text c.in-Text.text) c.get.ensures.table
    c.requires c.get.ensures.value c.in-Text.is in
    search (rules, DD.the_lemmas, is, c.in_ok-copy-in-Text.ensures)

pub unshare-returns-in_ok-unshare_list-in-List : goal.unshare-returns-in_ok-unshare_list-in-List
unshare-returns-in_ok-unshare_list-in-List t c =
    let is = unshared-part c.args.parts.now c.args.id.0 c.get.result.now (V.List c.in-List.ids) c.get.ensures.table
    c.requires c.get.ensures.value c.in-List.is in
    view-List c.in_ok-unshare_list-in-List.field-0 ∙ ap D.array c.in_ok-unshare_list-in-List.ensures ∙ is

pub unshare-returns-in_ok-unshare_members-in-Members : goal.unshare-returns-in_ok-unshare_members-in-Members
unshare-returns-in_ok-unshare_members-in-Members t c =
    let is = unshared-part c.args.parts.now c.args.id.0 c.get.result.now (V.Members c.in-Members.members)
    c.get.ensures.table c.requires c.get.ensures.value c.in-Members.is in
    view-Members c.in_ok-unshare_members-in-Members.field-0
    ∙ ap D.object c.in_ok-unshare_members-in-Members.ensures ∙ is

pub unshare_list-unshare-requires : goal.unshare_list-unshare-requires
unshare_list-unshare-requires t c =
    let below = mapped-above_all number_of c.as_slice-numbers.result.now c.args.ids.now c.loop-id.id-index
    (record { 0 = 0 }) c.as_slice-numbers.ensures c.loop-id-test.true in
    let inside = above_all-below (length c.args.parts.now) c.args.ids.now c.requires in
    (omega (arith, c.decreases, below), omega (arith, below, inside))

pub unshare_list-returns : goal.unshare_list-returns
unshare_list-returns t c =
    c.from_vec.ensures
    ∙ ap D.items_of (all_numbers (unshared c.args.parts.now) c.as_slice-numbers.result.now c.args.ids.now
    c.loop-id.id-index _ c.as_slice-numbers.ensures c.loop-id-test.false c.loop-id.invariant)

pub unshare_members-unshare-requires : goal.unshare_members-unshare-requires
unshare_members-unshare-requires t c =
    let below = member-above_all c.as_slice-named.result.now c.args.members.now c.loop-member.member-index
    c.member-item.result c.as_slice-named.ensures.list c.loop-member-test.true c.member-item.is in
    let inside = above_all-below (length c.args.parts.now) (map (λ m. m.1) c.args.members.now) c.requires in
    (omega (arith, c.decreases, below), omega (arith, below, inside))

pub unshare_members-rising_map-requires : goal.unshare_members-rising_map-requires
unshare_members-rising_map-requires t c =
    all_members-rise (unshared c.args.parts.now) c.args.members.now _ c.as_slice-named.ensures.rising
    (all_members (unshared c.args.parts.now) c.as_slice-named.result.now c.args.members.now c.loop-member.member-index
    _ c.as_slice-named.ensures.list c.loop-member-test.false c.loop-member.invariant)

pub unshare_members-returns : goal.unshare_members-returns
unshare_members-returns t c =
    c.rising_map.ensures
    ∙ ap D.members_of (all_members (unshared c.args.parts.now) c.as_slice-named.result.now c.args.members.now
    c.loop-member.member-index _ c.as_slice-named.ensures.list c.loop-member-test.false c.loop-member.invariant)
