use Rattle.std.proofs.Common.{◌≡◌, length, ap, sym, ◌∙◌}
use Rattle.js_pattern.proofs.TreeLists.{trees, trees-of, length-trees, same_at}
use Rattle.js_pattern.proofs.trees.+same.Goals as goal

pub same_lists-returns-then-xs-ys : goal.same_lists-returns-then-xs-ys
same_lists-returns-then-xs-ys t c =
    let xs = length-trees _ _ c.as_slice-xs.ensures.view in
    let ys = length-trees _ _ c.as_slice-ys.ensures.view in
    ((λ h. cc), (λ e. absurd (c.if-xs-ys.true (sym xs ∙ ap (λ l. length (trees l)) e ∙ ys))))

pub same_lists-returns-then-not-same_trees : goal.same_lists-returns-then-not-same_trees
same_lists-returns-then-not-same_trees t c =
    let xs = trees-of _ _ c.as_slice-xs.ensures.view in
    let ys = trees-of _ _ c.as_slice-ys.ensures.view in
    let same : length c.as_slice-xs.result.now ≡ length c.as_slice-ys.result.now = c.if-xs-ys.false in (
      (λ h. cc),
      (λ e. c.if-not-same_trees.ensures.1 (same_at _ _ c.loop-i.i _ _ c.loop-i-test.true same c.index-xs-i.is
          c.index-ys-i.is (sym xs ∙ ap trees e ∙ ys))),
    )
