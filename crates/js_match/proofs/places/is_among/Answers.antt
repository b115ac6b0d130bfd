use Rattle.std.proofs.Common.{ℕ, Bool, ◌||◌, nat_eq, refl, ◌∙◌}
use Rattle.std.specs.List.{list_any}
use Rattle.std.proofs.lemmas.List.Recursion.{same_from_clauses}
use Rattle.js_match.specs.Places.{is_at}
use Rattle.js_match.proofs.places.is_among.Goals as goal

pub returns : goal.returns
returns c =
    let test : ℕ → Bool = λ x. nat_eq x c.args.place in
    c.contains.ensures.value
    ∙ same_from_clauses (list_any test) (is_at c.args.place) (λ x b. test x || b) refl (λ _ _. refl) (λ _ _. refl)
    c.args.places.now
