-- Crossed bounds are said alone.
use Rattle.std.proofs.Common.{[], ◌∷◌, ◌++◌, map, cond, refl, ap, sym, ◌∙◌}
use Rattle.certificate_lines.specs.Line as L
use Rattle.refutations.specs.GoalLines.{open_lines, leaf_lines}
use Rattle.js_algebra.specs.View.{signed_view, kind_view}
use Rattle.js_lines.specs.declared.lines.CertLine.TheVariants as V
use Rattle.js_lines.specs.View.{line_view}
use Rattle.js_goal_lines.proofs.Adding.{one-more, same-piece}
use Rattle.js_goal_lines.proofs.leaf.add_leaf_lines.Goals as goal

pub returns-then-is_crossed : goal.returns-then-is_crossed
returns-then-is_crossed g c =
    let ls = open_lines (g.D.Dead.number_of c.args.dead.now) c.args.core.now.positions (kind_view c.args.kind)
    (map signed_view c.args.set.now) in
    one-more c.args.lines.now.items c.push.new.self.items V.Count L.Count c.in_ok-push.ensures.items refl
    ∙ ap (λ z. map line_view c.args.lines.now.items ++ z)
    (sym (c.is_crossed.ensures ls ∙ ap (λ b. cond b (L.Count ∷ []) ls) c.if-is_crossed.true))

pub returns : goal.returns
returns g c =
    let ls = open_lines (g.D.Dead.number_of c.args.dead.now) c.args.core.now.positions (kind_view c.args.kind)
    (map signed_view c.args.set.now) in
    same-piece c.add_open_lines.result (map line_view c.args.lines.now.items)
    (map line_view c.add_open_lines.new.lines.items) ls
    (leaf_lines (g.D.Dead.number_of c.args.dead.now) c.args.core.now.positions (kind_view c.args.kind)
    (map signed_view c.args.set.now))
    (sym (c.is_crossed.ensures ls ∙ ap (λ b. cond b (L.Count ∷ []) ls) c.if-is_crossed.false))
    c.add_open_lines.ensures
