-- The set of the last step is in the table.
use Rattle.std.proofs.Common.{◌≡◌, map, true, ap, sym, ◌∙◌, subst}
use Rattle.refutations.specs.GoalLines.{leaf_lines}
use Rattle.js_algebra.specs.View.{kind_view, are_in_table}
use Rattle.js_lines.specs.View.{line_view}
use Rattle.js_goal_lines.proofs.Adding.{same-piece}
use Rattle.js_goal_lines.proofs.Walking.{set-inside}
use Rattle.js_goal_lines.proofs.tree.add_set_lines.Goals as goal

pub add_leaf_lines-requires : goal.add_leaf_lines-requires
add_leaf_lines-requires g c =
    let T = c.args.core.now.positions in
    subst (λ z. are_in_table T z ≡ true) (sym (c.as_slice.ensures ∙ c.in_ok-set.ensures))
    (set-inside T (kind_view c.args.kind) c.args.tree.now c.requires)

pub returns : goal.returns
returns g c =
    same-piece c.add_leaf_lines.result (map line_view c.args.lines.now.items)
    (map line_view c.add_leaf_lines.new.lines.items) _ _
    (ap (leaf_lines (g.D.Dead.number_of c.args.dead.now) c.args.core.now.positions (kind_view c.args.kind))
    (c.as_slice.ensures ∙ c.in_ok-set.ensures))
    c.add_leaf_lines.ensures
