use Rattle.std.proofs.Common.{◌++◌, ◌∷◌, [], get_or, Some, ap, subst, ◌∙◌}
use Rattle.std.specs.Prelude.{IfOk}
use Rattle.schemas.specs.Places.{index_token}
use Rattle.js_pointers.specs.Table.{Leads}
use Rattle.js_pointers.specs.TokensView.{names_of}
use Rattle.js_pointers.specs.PointersView.{pointers_of}
use Rattle.js_pointers.proofs.WordLemmas.{word-index}
use Rattle.js_pointers.proofs.pointers.Pointers.add_index.Goals as goal

pub returns-clause-number : goal.returns-clause-number
returns-clause-number c =
    subst
    (λ w. IfOk c.step_number.result (λ n. Leads (pointers_of c.step_number.new.self) (Some n)
    (get_or (pointers_of c.args.self.now) c.args.of [] ++ w ∷ [])))
    (word-index (names_of c.args.self.now.tokens) c.in-Some.token c.in-Some.ensures.1
    ∙ ap index_token c.in-Some.ensures.0)
    c.step_number.ensures.number
