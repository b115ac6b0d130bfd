-- The edges of the row so far are linked.
use Rattle.std.proofs.Common.{◌≡◌, ℕ, List, ◌++◌, map, take, length}
use Rattle.js_guard.specs.Linked.{IsLinked}
use Rattle.js_guard.proofs.reverse.Linked.add_row.Given as goal

abbrev pub invariant-loop-target : goal.invariant-loop-target
invariant-loop-target l =
    record {
      heads : length l.self.last.items ≡ length l.fn.self.last.items;
      linked : (L : List (ℕ × ℕ)) (n : ℕ) → IsLinked L n l.fn.self.last.items l.fn.self.edges.items
          → IsLinked (L ++ map (λ t. (l.entry, t)) (take l.target-index l.row)) n l.self.last.items l.self.edges.items;
    }
