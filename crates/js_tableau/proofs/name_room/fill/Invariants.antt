-- The truths of the leaves so far are right.
use Rattle.std.proofs.Common.{◌≡◌, Bool, true, map, take}
use Rattle.documents.specs.Tests.{every}
use Rattle.word_states.specs.Atom.{Atom}
use Rattle.name_laws.specs.Plans.{atoms_of}
use Rattle.name_laws.specs.Rooms.{is_right}
use Rattle.js_algebra.specs.View.{places}
use Rattle.js_tableau.proofs.name_room.fill.Given as goal

abbrev pub invariant-loop-k : goal.invariant-loop-k
invariant-loop-k l =
    (truth : Atom → Bool) → l.truths ≡ map truth (atoms_of l.core.positions (places l.leaves))
    → every (is_right l.core.positions truth l.room) (take l.k (places l.leaves)) ≡ true
