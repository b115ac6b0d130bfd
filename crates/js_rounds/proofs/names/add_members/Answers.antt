-- One more member.
use Rattle.std.proofs.Common.{map, ap, ap₂, ◌∙◌}
use Rattle.std.proofs.lemmas.List.{map-append}
use Rattle.alternatives.specs.Slots.{word_at}
use Rattle.search.specs.Witness as W
use Rattle.js_doc.specs.PartMembers.{member_view}
use Rattle.js_expansion.specs.View.{slot_view}
use Rattle.js_rounds.specs.Slots.{place_at}
use Rattle.js_rounds.proofs.Members.{repeated_turn}
use Rattle.js_rounds.proofs.names.add_members.Goals as goal

pub loop-behind-preserved : goal.loop-behind-preserved
loop-behind-preserved c =
    repeated_turn (W.named (word_at c.args.lists.now) (place_at c.args.places.now)) (slot_view c.args.run.now.slot)
    c.loop-behind.behind c.args.run.now.goal (map member_view c.loop-behind.members.items)
    (map member_view c.args.members.now.items) (map member_view c.push.new.self.items)
    (c.in_ok-name.name, c.place_of.result) c.loop-behind.invariant
    (ap (map member_view) c.in_ok-push.ensures.items ∙ map-append member_view c.loop-behind.members.items _)
    (ap₂ (λ n p. (n, p)) c.in_ok-name.ensures c.place_of.ensures)
