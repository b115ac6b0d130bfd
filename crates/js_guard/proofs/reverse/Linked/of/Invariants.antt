-- The edges of the entries so far are linked.
use Rattle.std.proofs.Common.{◌≡◌, ℕ, List, ◌++◌, drop, length}
use Rattle.js_guard.specs.Linked.{pairs, IsLinked}
use Rattle.js_guard.proofs.reverse.Linked.of.Given as goal

abbrev pub invariant-loop-entry : goal.invariant-loop-entry
invariant-loop-entry l =
    (L : List (ℕ × ℕ)) × IsLinked L (length l.edges) l.linked.last.items l.linked.edges.items
    × (L ++ pairs l.entry (drop l.entry l.edges) ≡ pairs 0 l.edges)
