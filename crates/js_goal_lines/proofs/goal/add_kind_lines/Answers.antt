-- The line of the kind, and then those of the tree.
use Rattle.std.proofs.Common.{[], ◌∷◌, ◌++◌, map, refl, ap, ◌∙◌}
use Rattle.certificate_lines.specs.Line as L
use Rattle.refutations.specs.TreeLines.{tree_lines}
use Rattle.refutations.specs.GoalLines.{leaf_lines}
use Rattle.js_algebra.specs.View.{kind_view}
use Rattle.js_lines.specs.declared.lines.CertLine.TheVariants as V
use Rattle.js_lines.specs.View.{line_view}
use Rattle.js_goal_lines.proofs.Adding.{on_ok, one-more, two-pieces}
use Rattle.js_goal_lines.proofs.goal.add_kind_lines.Goals as goal

pub add_tree_lines-requires : goal.add_tree_lines-requires
add_tree_lines-requires g c = c.in_ok-tree.ensures.tree (kind_view c.args.kind)

pub returns : goal.returns
returns g c =
    let t = kind_view c.args.kind in
    let T = c.args.core.now.positions in
    let leaf = leaf_lines (g.D.Dead.number_of c.args.dead.now) T t in
    let before = map line_view c.args.lines.now.items in
    let now = map line_view c.push.new.self.items in
    on_ok _ _ c.add_tree_lines.result
    (λ h. two-pieces before now (map line_view c.add_tree_lines.new.lines.items) (L.At t ∷ []) _
    (one-more c.args.lines.now.items c.push.new.self.items (V.At c.args.kind) (L.At t) c.in_ok-push.ensures.items refl)
    (h ∙ ap (λ ss. now ++ tree_lines leaf ss) (c.in_ok-tree.ensures.left t)))
    c.add_tree_lines.ensures
