-- The sources of the edges from there on are read.
use Rattle.std.proofs.Common.{ℕ, ◌≤◌, List, length}
use Rattle.js_guard.specs.Linked.{IsLinked}
use Rattle.js_guard.proofs.Linking.{IsReading}
use Rattle.js_guard.proofs.reverse.Linked.read_sources.Given as goal

abbrev pub invariant-loop-left : goal.invariant-loop-left
invariant-loop-left l =
    record {
      within : l.left ≤ length l.self.edges.items;
      reading : (L : List (ℕ × ℕ)) → IsLinked L (length l.self.last.items) l.self.last.items l.self.edges.items
          → IsReading L l.target l.left l.row.items;
    }

abbrev pub decreases-loop-left : goal.decreases-loop-left
decreases-loop-left l = l.left
