-- Nothing is counted yet.
use Rattle.std.proofs.Common.{◌≡◌, ◌++◌, map, refl, ap, arith}
use Rattle.std.proofs.lemmas.Grind.{common_steps}
use Rattle.std.proofs.lemmas.List.{length-map}
use Rattle.js_explore.specs.View.{placed_view, filler_view}
use Rattle.js_waiting.specs.Counts.{member_place, filler_place, counted_rooms}
use Rattle.js_waiting.specs.Left.{members_left}
use Rattle.js_waiting.proofs.Counting.{all_left, no_rooms, member_turn}
use Rattle.js_waiting.proofs.counts.Counts.new.Goals as goal

pub loop-member-preserved : goal.loop-member-preserved
loop-member-preserved c =
    let ms = c.as_slice-members.result.now in
    member_turn ms c.loop-member.member-index c.loop-member.places.items c.push.new.self.items
    (map member_place (map placed_view ms)) _ (λ m. refl) c.loop-member-test.true c.in_ok-push.ensures.items
    c.loop-member.invariant

pub invariant_of-result : goal.invariant_of-result
invariant_of-result c =
    let ms = map placed_view c.as_slice-members.result.now in
    let fs = map filler_view c.as_slice-filler-items.result.now in
    let same : c.loop-filler.places.items ≡ map member_place ms ++ map filler_place fs = grind (arith, common_steps) in
    let l = all_left ms fs in
    let r = no_rooms ms fs in
    let k = length-map c.as_slice-members.result.now placed_view in
    let a = ap members_left same in
    let b = ap counted_rooms same in
    (omega (arith, l, k, a), omega (arith, r, b))
