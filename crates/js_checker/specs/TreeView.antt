-- What the tree of a goal at a kind has left to show.
use Rattle.std.specs.Prelude.{◌≡◌, List, ◌++◌, true, false, not, ◌&&◌}
use Rattle.positions.specs.Position.{Position}
use Rattle.verdicts.specs.Duties.{Duty}
use Rattle.js_check_trees.specs.OpenSetsView.{table_of, duties_of, has_set}
use Rattle.js_checker.specs.Duties.{any_left}
use Rattle.js_checker.specs.LeafView.{leaf_duties, leaf_table, is_open}
use Rattle.js_checker.specs.declared.tree.TreeCheck.{TreeCheck}

abbrev pub tree_duties : TreeCheck → List Duty
tree_duties t = leaf_duties t.leaf ++ duties_of t.sets

-- its sets and its leaf are those of a table
pub record IsOver (T : List Position) (t : TreeCheck) : Type 0 where
  pub leaf : leaf_table T t.leaf ≡ T
  pub sets : table_of t.sets ≡ T

-- between lines: an open leaf has something left, and where none is open, a set is at hand if any is left
pub record IsSteady (t : TreeCheck) : Type 0 where
  pub leaf : is_open t.leaf ≡ any_left (leaf_duties t.leaf)
  pub hand : has_set t.sets ≡ (not (is_open t.leaf) && any_left (duties_of t.sets))

-- before a line of the set at hand
pub record IsHeld (t : TreeCheck) : Type 0 where
  pub leaf : is_open t.leaf ≡ false
  pub hand : has_set t.sets ≡ true
