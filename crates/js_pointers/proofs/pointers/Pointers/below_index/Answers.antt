use Rattle.std.proofs.Common.{◌++◌, ◌∷◌, [], ap, subst, ◌∙◌}
use Rattle.schemas.specs.Places.{index_token}
use Rattle.js_pointers.specs.Table.{Leads}
use Rattle.js_pointers.specs.TokensView.{names_of}
use Rattle.js_pointers.specs.PointersView.{pointers_of}
use Rattle.js_pointers.proofs.WordLemmas.{word-index}
use Rattle.js_pointers.proofs.pointers.Pointers.below_index.Goals as goal

pub returns-in-Some-at : goal.returns-in-Some-at
returns-in-Some-at c = λ p leads.
    let ps = pointers_of c.args.self.now in
    subst (λ w. Leads ps c.below_token.result (p ++ w ∷ []))
    (word-index (names_of c.args.self.now.tokens) c.in-Some.token c.in-Some.ensures.1
    ∙ ap index_token c.in-Some.ensures.0)
    (c.below_token.ensures p (subst (λ a. Leads ps a p) c.in-Some-at.is leads))
