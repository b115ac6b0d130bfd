use Rattle.std.proofs.Common.{◌++◌, ◌∷◌, [], subst, sym, refl, ◌∙◌}
use Rattle.js_pointers.specs.Table.{Leads, word}
use Rattle.js_pointers.specs.TokensView.{names_of}
use Rattle.js_pointers.specs.PointersView.{pointers_of}
use Rattle.js_pointers.proofs.TableLemmas.{below-found, below-missing}
use Rattle.js_pointers.proofs.pointers.Pointers.below_token.Goals as goal

pub returns-in_err-index : goal.returns-in_err-index
returns-in_err-index c = λ p leads.
    let t = c.args.self.now in
    subst (λ r. Leads (pointers_of t) r (p ++ word (names_of t.tokens) c.args.token ∷ [])) (sym c.from_residual.ensures)
    (below-missing _ _ _ t.table t.tokens.are_names _ _ p _ leads.0 leads.1 (c.requires, refl)
    (sym c.number.ensures.index ∙ c.in_err-index.was))

pub returns : goal.returns
returns c = λ p leads.
    below-found _ _ _ c.args.self.now.table _ _ _ p _ leads.1 refl
    (sym c.number.ensures.index ∙ c.in_ok-index.was)
