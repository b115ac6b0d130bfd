use Rattle.std.proofs.Common.{◌++◌, ◌∷◌, [], chars, subst, sym}
use Rattle.js_pointers.specs.Table.{Leads}
use Rattle.js_pointers.specs.PointersView.{pointers_of}
use Rattle.js_pointers.proofs.TableLemmas.{below-unknown}
use Rattle.js_pointers.proofs.pointers.Pointers.below.Goals as goal

pub returns-in_err-token : goal.returns-in_err-token
returns-in_err-token c = λ p leads.
    let ps = pointers_of c.args.self.now in
    let at = subst (λ a. Leads ps a p) c.in_ok-of.was leads in
    subst (λ r. Leads ps r (p ++ chars c.args.token.now ∷ [])) (sym c.from_residual-in_err-token.ensures)
    (below-unknown _ _ _ c.args.self.now.table _ p (chars c.args.token.now) at.0 at.1 c.in_err-token.ensures)

pub returns : goal.returns
returns c = λ p leads.
    let ps = pointers_of c.args.self.now in
    subst (λ w. Leads ps c.below_token.result (p ++ w ∷ [])) c.in_ok-token.ensures.1
    (c.below_token.ensures p (subst (λ a. Leads ps a p) c.in_ok-of.was leads))
