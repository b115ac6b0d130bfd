-- What is left is still to be added.
use Rattle.std.proofs.Common.{◌≡◌, ◌++◌, map, drop}
use Rattle.alternatives.specs.Slots.{word_at}
use Rattle.search.specs.Witness as W
use Rattle.js_doc.specs.PartMembers.{member_view}
use Rattle.js_rounds.specs.Spread.{spread}
use Rattle.js_rounds.specs.Slots.{place_at}
use Rattle.js_rounds.proofs.names.members_of.Given as goal

abbrev pub invariant-loop-run : goal.invariant-loop-run
invariant-loop-run l =
    map member_view l.members.items
    ++ map (W.named (word_at l.lists) (place_at l.places)) (spread (drop l.run-index l.runs))
    ≡ map (W.named (word_at l.lists) (place_at l.places)) (spread l.runs)
