use Rattle.std.proofs.Common.{◌≡◌, ◌+◌, ◌*◌, map, take}
use Rattle.js_doc.specs.View.{view, member_view}
use Rattle.shared_documents.specs.Unshared.{unshared}
use Rattle.js_doc.proofs.NumbersAbove.{above_all}
use Rattle.js_doc.proofs.unsharing.+unshare.Given as goal

abbrev pub decreases-unshare : goal.decreases-unshare
decreases-unshare l = 2 * l.id.0 + 1

abbrev pub decreases-unshare_list : goal.decreases-unshare_list
decreases-unshare_list l = 2 * above_all l.ids.now

abbrev pub decreases-unshare_members : goal.decreases-unshare_members
decreases-unshare_members l = 2 * above_all (map (λ m. m.1) l.members.now)

abbrev pub invariant-unshare_list-loop-id : goal.invariant-unshare_list-loop-id
invariant-unshare_list-loop-id l =
    map view l.items.items ≡ map (λ i. unshared l.parts i.0) (take l.id-index l.numbers)

abbrev pub invariant-unshare_members-loop-member : goal.invariant-unshare_members-loop-member
invariant-unshare_members-loop-member l =
    map member_view l.made.items ≡ map (λ m. (m.name, unshared l.parts m.part.0)) (take l.member-index l.named)
