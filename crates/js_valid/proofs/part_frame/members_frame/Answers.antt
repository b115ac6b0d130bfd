use Rattle.std.proofs.Common.{ap, ◌∙◌}
use Rattle.documents.specs.Document.{members_of, null}
use Rattle.js_doc.proofs.PartTables.{all_members, all_members-rise}
use Rattle.js_valid.proofs.part_frame.members_frame.Goals as goal

pub rising_map-requires : goal.rising_map-requires
rising_map-requires c =
    all_members-rise (λ i. null) c.args.named.now _ c.as_slice-parts.ensures.rising
    (all_members (λ i. null) c.as_slice-parts.result.now c.args.named.now c.loop-member.member-index _
    c.as_slice-parts.ensures.list c.loop-member-test.false c.loop-member.invariant)

pub returns : goal.returns
returns c =
    c.rising_map.ensures
    ∙ ap members_of (all_members (λ i. null) c.as_slice-parts.result.now c.args.named.now c.loop-member.member-index _
    c.as_slice-parts.ensures.list c.loop-member-test.false c.loop-member.invariant)
