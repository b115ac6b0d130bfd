use Rattle.std.proofs.Common.{◌≡◌, map, take}
use Rattle.js_doc.specs.View.{member_view}
use Rattle.js_values.proofs.values.names_of.Given as goal

abbrev pub invariant-loop-member : goal.invariant-loop-member
invariant-loop-member l = l.names.items ≡ map (λ m. (member_view m).0) (take l.member-index l.member-items)
