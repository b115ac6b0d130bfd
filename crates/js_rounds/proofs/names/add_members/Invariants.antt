-- The members so far.
use Rattle.std.proofs.Common.{◌≡◌, ◌++◌, map}
use Rattle.alternatives.specs.Slots.{word_at}
use Rattle.search.specs.Uses.{repeated}
use Rattle.search.specs.Witness as W
use Rattle.js_doc.specs.PartMembers.{member_view}
use Rattle.js_expansion.specs.View.{slot_view}
use Rattle.js_rounds.specs.Slots.{place_at}
use Rattle.js_rounds.proofs.names.add_members.Given as goal

abbrev pub invariant-loop-behind : goal.invariant-loop-behind
invariant-loop-behind l =
    map member_view l.members.items ≡ map member_view l.initial.members.items
    ++ map (W.named (word_at l.lists) (place_at l.places)) (repeated (slot_view l.run.slot) l.behind l.run.goal)
