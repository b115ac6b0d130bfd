-- The edges before `next` are passed, and nothing but groups and the least entry on a cycle has changed.
use Rattle.std.proofs.Common.{◌≡◌, ◌-◌, ◌++◌, ◌∷◌, [], length}
use Rattle.js_guard.specs.Steps.{IsSearchWith}
use Rattle.js_guard.proofs.Passing.{turn}
use Rattle.js_guard.proofs.search.Search.pass_edges.Given as goal

abbrev pub invariant-loop-next : goal.invariant-loop-next
invariant-loop-next l =
    record {
      marks : l.self.marks ≡ l.fn.self.marks;
      opened : l.self.opened ≡ l.fn.self.opened;
      path : l.self.path ≡ l.fn.self.path;
      search : IsSearchWith l.edges l.self (l.fn.self.path.items ++ turn l.fn.turn.place l.next ∷ []);
    }

abbrev pub decreases-loop-next : goal.decreases-loop-next
decreases-loop-next l = length l.row - l.next
