-- The truths of those that were seen before, and of the positions so far, are right.
use Rattle.std.proofs.Common.{◌≡◌, ℕ, List, ◌++◌, Bool, true, take}
use Rattle.documents.specs.Tests.{every}
use Rattle.word_states.specs.Atom.{Atom}
use Rattle.name_laws.specs.Plans.{asks_earlier}
use Rattle.name_laws.specs.Rooms.{is_right}
use Rattle.js_tableau.specs.NamePlans.{places_of}
use Rattle.js_tableau.proofs.name_room.sweep.Given as goal

abbrev pub invariant-loop-r : goal.invariant-loop-r
invariant-loop-r l =
    (truth : Atom → Bool) (seen : List ℕ) → asks_earlier l.core.positions seen (places_of l.inner) ≡ true
    → every (is_right l.core.positions truth l.fn.room) seen ≡ true
    → every (is_right l.core.positions truth l.room) (seen ++ take l.r-index (places_of l.inner)) ≡ true
