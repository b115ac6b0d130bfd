-- One more number.
use Rattle.std.proofs.Common.{◌+◌, ◌-◌, ◌++◌, [], ◌∷◌, ap, sym, ◌∙◌, append_assoc}
use Rattle.std.specs.List.{range_with_len}
use Rattle.js_plans.proofs.Options.{range-next}
use Rattle.js_plans.proofs.alternative_list.numbers.Goals as goal

pub loop-k-preserved : goal.loop-k-preserved
loop-k-preserved c =
    let rest = range_with_len (c.loop-k.k + 1) (c.args.count - (c.loop-k.k + 1)) in
    ap (λ xs. xs ++ rest) c.in_ok-push.ensures.items
    ∙ append_assoc c.loop-k.numbers.items (c.loop-k.k ∷ []) rest
    ∙ ap (λ xs. c.loop-k.numbers.items ++ xs) (sym (range-next c.loop-k.k c.args.count c.loop-k-test.true))
    ∙ c.loop-k.invariant
