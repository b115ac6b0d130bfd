-- A step counts as an end, or leaves sets.
use Rattle.std.proofs.Common.{◌≡◌, ℕ, zero, suc, ◌+◌, List, [], ◌∷◌, length, refl, arith, ap, sym, ◌∙◌, subst}
use Rattle.std.proofs.Math.ListN.{length-map}
use Rattle.goals.specs.Signed as G
use Rattle.goals.specs.Tree as T
use Rattle.goals.specs.Tree.{ends}
use Rattle.js_algebra.specs.View.{signed_view}
use Rattle.js_tableau.specs.Progress.{Matches, is_end, one_more, choice_count}
use Rattle.js_tableau.specs.declared.walk.Step.{Step}
use Rattle.js_tableau.specs.declared.walk.Step.TheVariants as V
use Rattle.js_tableau.proofs.Unfolded.{next_sets}

-- what is counted and what is left have together as many ends after a step as before it
pub counts : (s : Step) (st : T.Step) (n : ℕ) (ss : List T.Step) → Matches s st
    → one_more (is_end s) n + ends ss ≡ n + ends (st ∷ ss)
counts (V.Clash x) st n ss m = subst (λ z. (n + 1) + ends ss ≡ n + ends (z ∷ ss)) (sym m) (omega arith)
counts (V.Wrong x) st n ss m = subst (λ z. (n + 1) + ends ss ≡ n + ends (z ∷ ss)) (sym m) (omega arith)
counts (V.Rule x zero) st n ss (cs, e, l) = subst (λ z. (n + 1) + ends ss ≡ n + ends (z ∷ ss)) (sym e)
    (ended cs l) where
      ended : (cs : List (List G.Signed)) → zero ≡ length cs → (n + 1) + ends ss ≡ n + ends (T.Rule (signed_view x) cs ∷ ss)
      ended [] q = omega arith
      ended (C ∷ cs) q = absurd (omega (arith, q))
counts (V.Rule x (suc k)) st n ss (cs, e, l) = subst (λ z. n + ends ss ≡ n + ends (z ∷ ss)) (sym e) (going cs l) where
  going : (cs : List (List G.Signed)) → suc k ≡ length cs → n + ends ss ≡ n + ends (T.Rule (signed_view x) cs ∷ ss)
  going [] q = absurd (omega (arith, q))
  going (C ∷ cs) q = refl
counts V.Saturated st n ss (S, e) = subst (λ z. (n + 1) + ends ss ≡ n + ends (z ∷ ss)) (sym e) (omega arith)

-- a step has as many choices as it leaves sets
pub leaves : (s : Step) (st : T.Step) (S : List G.Signed) → Matches s st → choice_count s ≡ length (next_sets S st)
leaves (V.Clash x) st S m = ap (λ z. length (next_sets S z)) (sym m)
leaves (V.Wrong x) st S m = ap (λ z. length (next_sets S z)) (sym m)
leaves (V.Rule x n) st S (cs, e, l) = l ∙ sym (length-map cs (λ C. G.add_all C S))
    ∙ ap (λ z. length (next_sets S z)) (sym e)
leaves V.Saturated st S (B, e) = ap (λ z. length (next_sets S z)) (sym e)
