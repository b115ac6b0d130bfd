-- The groups that are left out begin past the place.
use Rattle.std.proofs.Common.{ℕ, ◌<◌, ◌≤◌, length}
use Rattle.js_guard.specs.Searching.{at}
use Rattle.js_guard.proofs.search.Search.join.Given as goal

abbrev pub invariant-loop-kept : goal.invariant-loop-kept
invariant-loop-kept l =
    record {
      within : l.kept ≤ length l.self.groups.items;
      past : (k : ℕ) → l.kept ≤ k → k < length l.self.groups.items → l.place < at l.self.groups.items k;
    }

abbrev pub decreases-loop-kept : goal.decreases-loop-kept
decreases-loop-kept l = l.kept
