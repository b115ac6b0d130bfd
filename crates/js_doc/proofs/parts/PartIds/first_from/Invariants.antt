use Rattle.std.proofs.Common.{◌≡◌, map, drop, nat_le}
use Rattle.std.specs.List.{find}
use Rattle.js_doc.specs.PartMembers.{number_of}
use Rattle.js_doc.proofs.parts.PartIds.first_from.Given as goal

abbrev pub invariant-loop-id : goal.invariant-loop-id
invariant-loop-id l =
    find (λ i. nat_le l.count i) (map number_of (drop l.id-index l.id-items)) ≡ find (λ i. nat_le l.count i) l.fn.self
