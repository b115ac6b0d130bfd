-- The elements so far.
use Rattle.std.proofs.Common.{◌≡◌, ◌++◌, map}
use Rattle.search.specs.Uses.{repeated}
use Rattle.js_doc.specs.PartMembers.{number_of}
use Rattle.js_expansion.specs.View.{slot_view}
use Rattle.js_rounds.specs.Slots.{place_at}
use Rattle.js_rounds.proofs.elements.add_elements.Given as goal

abbrev pub invariant-loop-turn : goal.invariant-loop-turn
invariant-loop-turn l =
    map number_of l.ids.items ≡ map number_of l.initial.ids.items
    ++ map (λ p. place_at l.places p.goal) (repeated (slot_view l.run.slot) l.turn l.run.goal)
