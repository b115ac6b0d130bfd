-- What is left of the goals and of the cells.
use Rattle.std.proofs.Common.{◌≡◌, ◌+◌, ◌++◌, map, drop, length, reverse}
use Rattle.std.specs.Vec.Iter.{into_iter_items}
use Rattle.js_expansion.specs.View.{placed_view}
use Rattle.js_plans.specs.Named.{naming_view, placed_from}
use Rattle.js_plans.proofs.alternative_list.add_placed.Given as goal

abbrev pub invariant-loop-goal : goal.invariant-loop-goal
invariant-loop-goal l = record {
  can : (goal.iterator-loop-goal).can_next l.goal-iterator;
  ends : (goal.iterator-loop-goal).is_finite l.goal-iterator;
  placed : map placed_view l.placed.items
      ++ placed_from (naming_view l.naming) (length l.before.items) (reverse l.before.items) (drop l.index l.cells)
      (into_iter_items l.goal-iterator)
      ≡ map placed_view l.fn.placed.items
      ++ placed_from (naming_view l.naming) (length l.fn.before.items) (reverse l.fn.before.items) l.cells
      l.fn.goals.items;
  before : l.before.items ++ drop l.index l.cells ≡ l.fn.before.items ++ l.cells;
  same : l.index + length (into_iter_items l.goal-iterator) ≡ length l.cells;
  few : length l.before.items ≡ length l.fn.before.items + l.index;
}
