-- Each name so far is made of scalar values.
use Rattle.std.proofs.Common.{◌≡◌, take, true}
use Rattle.documents.specs.Tests.{every}
use Rattle.js_doc.specs.PartMembers.{member_view}
use Rattle.js_text.specs.Scalars.{has_scalar_name}
use Rattle.js_text.proofs.told.names_are_told.Given as goal

abbrev pub invariant-loop-member : goal.invariant-loop-member
invariant-loop-member l =
    every (λ m. has_scalar_name (member_view m)) (take l.member-index l.member-items) ≡ true
