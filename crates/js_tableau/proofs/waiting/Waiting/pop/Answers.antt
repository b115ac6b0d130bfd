-- The least number is taken.
use Rattle.std.proofs.Common.{◌≡◌, ◌∷◌, map, true, sym, ◌∙◌, ap, subst}
use Rattle.documents.specs.Tests.{every}
use Rattle.goals.specs.Signed.{comes_before}
use Rattle.js_algebra.specs.Numbers.{signed_at}
use Rattle.js_tableau.proofs.Kept.{before-above}
use Rattle.js_tableau.proofs.waiting.Waiting.pop.Goals as goal

pub returns : goal.returns
returns c = (
  sym c.self.view_is ∙ ap (map signed_at) c.in_ok-number.ensures.removal
      ∙ ap (λ x. x ∷ map signed_at c.pop_first.new.self.keys) (sym c.from_order.ensures),
  subst (λ x. every (comes_before x) (map signed_at c.pop_first.new.self.keys) ≡ true) (sym c.from_order.ensures)
      (before-above c.in_ok-number.number c.pop_first.new.self.keys c.in_ok-number.ensures.all_above),
)
