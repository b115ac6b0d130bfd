use Rattle.std.proofs.Common.{◌∷◌, [], ap₂, sym, ◌∙◌}
use Rattle.js_algebra.proofs.Choosing.{pair-at}
use Rattle.js_algebra.proofs.choice.pair.Goals as goal

pub returns : goal.returns
returns c =
    ap₂ (λ x y. x ∷ y ∷ []) c.signed_at-first.ensures c.signed_at-second.ensures
    ∙ sym (pair-at c.args.ps.now c.args.index c.pairs.result c.most_with-later.result c.pairs-2.result c.requires
    c.pairs.ensures.value c.most_with-later.ensures.few c.most_with-later.ensures.most c.most_with-later.ensures.below
    c.pairs-2.ensures.value)
