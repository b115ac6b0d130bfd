use Rattle.std.proofs.Common.{◌≡◌, true, subst}
use Rattle.documents.specs.Tests.{every}
use Rattle.js_doc.specs.PartMembers.{member_view}
use Rattle.js_text.specs.Scalars.{has_scalar_name}
use Rattle.js_text.proofs.ToldLemmas.{every-next, every-taken, every-mapped}
use Rattle.js_text.proofs.told.names_are_told.Goals as goal

pub loop-member-preserved : goal.loop-member-preserved
loop-member-preserved c =
    every-next (λ m. has_scalar_name (member_view m)) c.as_slice-member-items.result.now c.loop-member.member-index
    c.member-item.result c.loop-member-test.true c.member-item.is c.name_is_told.ensures c.loop-member.invariant

pub returns : goal.returns
returns c =
    subst (λ ms. every has_scalar_name ms ≡ true) c.as_slice-member-items.ensures.list
    (every-mapped has_scalar_name member_view c.as_slice-member-items.result.now
    (every-taken (λ m. has_scalar_name (member_view m)) c.as_slice-member-items.result.now c.loop-member.member-index
    c.loop-member-test.false c.loop-member.invariant))
