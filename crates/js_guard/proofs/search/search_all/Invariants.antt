-- All entries so far are met.
use Rattle.std.proofs.Common.{◌≡◌, ℕ, ◌<◌}
use Rattle.js_guard.specs.declared.search.Mark.TheVariants.{New}
use Rattle.js_guard.specs.Searching.{mark}
use Rattle.js_guard.specs.Steps.{IsResting}
use Rattle.js_guard.proofs.search.search_all.Given as goal

abbrev pub invariant-loop-root : goal.invariant-loop-root
invariant-loop-root l =
    record {
      resting : IsResting l.edges l.search;
      met : (x : ℕ) → x < l.root → mark l.search.marks.items x ≡ New → ⊥;
    }
