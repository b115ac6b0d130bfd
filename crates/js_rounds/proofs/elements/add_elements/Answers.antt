-- One more element.
use Rattle.std.proofs.Common.{map, ap, ◌∙◌}
use Rattle.std.proofs.lemmas.List.{map-append}
use Rattle.js_doc.specs.PartMembers.{number_of}
use Rattle.js_expansion.specs.View.{slot_view}
use Rattle.js_rounds.specs.Slots.{place_at}
use Rattle.js_rounds.proofs.Members.{repeated_turn}
use Rattle.js_rounds.proofs.elements.add_elements.Goals as goal

pub loop-turn-preserved : goal.loop-turn-preserved
loop-turn-preserved c =
    repeated_turn (λ p. place_at c.args.places.now p.goal) (slot_view c.args.run.now.slot) c.loop-turn.turn
    c.args.run.now.goal (map number_of c.loop-turn.ids.items) (map number_of c.args.ids.now.items)
    (map number_of c.push.new.self.items) c.place_of.result c.loop-turn.invariant
    (ap (map number_of) c.in_ok-push.ensures.items ∙ map-append number_of c.loop-turn.ids.items _) c.place_of.ensures
