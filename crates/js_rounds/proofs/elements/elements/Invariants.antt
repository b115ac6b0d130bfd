-- What is left is still to be added.
use Rattle.std.proofs.Common.{◌≡◌, ◌++◌, map, drop}
use Rattle.js_doc.specs.PartMembers.{number_of}
use Rattle.js_rounds.specs.Spread.{spread}
use Rattle.js_rounds.specs.Slots.{place_at}
use Rattle.js_rounds.proofs.elements.elements.Given as goal

abbrev pub invariant-loop-run : goal.invariant-loop-run
invariant-loop-run l =
    map number_of l.ids.items ++ map (λ p. place_at l.places p.goal) (spread (drop l.run-index l.runs))
    ≡ map (λ p. place_at l.places p.goal) (spread l.runs)
