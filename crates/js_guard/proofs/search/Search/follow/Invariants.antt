-- The search goes on, and the root is met.
use Rattle.std.proofs.Common.{◌≡◌}
use Rattle.js_guard.specs.declared.search.Mark.TheVariants.{New}
use Rattle.js_guard.specs.Searching.{mark}
use Rattle.js_guard.specs.Steps.{IsSearchWith, Keeps, work}
use Rattle.js_guard.proofs.search.Search.follow.Given as goal

abbrev pub invariant-loop-turn : goal.invariant-loop-turn
invariant-loop-turn l =
    record {
      search : IsSearchWith l.edges l.self l.self.path.items;
      keeps : Keeps l.fn.self l.self;
      met : mark l.self.marks.items l.root ≡ New → ⊥;
    }

abbrev pub decreases-loop-turn : goal.decreases-loop-turn
decreases-loop-turn l = work l.self
