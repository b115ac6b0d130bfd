use Rattle.std.proofs.Common.{◌≡◌, map, drop, nat_le}
use Rattle.std.specs.List.{find}
use Rattle.js_doc.specs.PartMembers.{member_view}
use Rattle.js_doc.proofs.parts.PartMap.first_from.Given as goal

abbrev pub invariant-loop-member : goal.invariant-loop-member
invariant-loop-member l =
    find (λ i. nat_le l.count i) (map (λ m. m.1) (map member_view (drop l.member-index l.member-items)))
    ≡ find (λ i. nat_le l.count i) (map (λ m. m.1) l.fn.self)
