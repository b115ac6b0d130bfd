-- The first value that isn't as required is found.
use Rattle.std.proofs.Common.{true, false, map, length, sym, ap, ◌∙◌, arith}
use Rattle.documents.specs.Tests.{every}
use Rattle.js_doc.specs.PartMembers.{member_view}
use Rattle.js_schema.specs.View.{form_view}
use Rattle.js_valid.proofs.DecideLaws.{step_every, end_every}
use Rattle.js_valid.proofs.PartMemberLaws.{value_met}
use Rattle.js_valid.proofs.SamePartLaws.{below-at, map-twice}
use Rattle.js_valid.proofs.part_members.are_members_met.Goals as goal

pub is_member_met-requires-clause-below : goal.is_member_met-requires-clause-below
is_member_met-requires-clause-below c =
    below-at (λ m. m.part.0) (length c.args.tables.now) c.loop-member.member-index c.as_slice-members.result.now
    (map (λ m. m.1) c.args.named.now) c.member-item.result
    (sym (map-twice (λ m. m.1) member_view c.as_slice-members.result.now)
    ∙ ap (map (λ m. m.1)) c.as_slice-members.ensures.list) c.requires.below c.loop-member-test.true c.member-item.is

pub returns-then-not-branch : goal.returns-then-not-branch
returns-then-not-branch c es ps known =
    let test = value_met es ps (form_view c.args.form.now) in
    step_every member_view test c.as_slice-members.result.now c.loop-member.member-index c.member-item.result true false
    _ c.loop-member-test.true c.member-item.is
    (sym c.if-not-branch.true ∙ c.in_ok-is_member_met.ensures es ps known) (c.loop-member.invariant es ps known)
    ∙ ap (every test) c.as_slice-members.ensures.list

pub loop-member-preserved : goal.loop-member-preserved
loop-member-preserved c es ps known =
    let test = value_met es ps (form_view c.args.form.now) in
    step_every member_view test c.as_slice-members.result.now c.loop-member.member-index c.member-item.result true true
    _ c.loop-member-test.true c.member-item.is
    (sym c.if-not-branch.false ∙ c.in_ok-is_member_met.ensures es ps known) (c.loop-member.invariant es ps known)

pub returns : goal.returns
returns c es ps known =
    let test = value_met es ps (form_view c.args.form.now) in
    end_every member_view test c.as_slice-members.result.now c.loop-member.member-index true _
    (omega (arith, c.loop-member-test.false)) (c.loop-member.invariant es ps known)
    ∙ ap (every test) c.as_slice-members.ensures.list
