use Rattle.std.proofs.Common.{ℕ, [], ◌∷◌, rules, tests, sym, ◌∙◌}
use Rattle.std.proofs.lemmas.Iterator.{YieldsList-from_slice}
use Rattle.std.proofs.lemmas.Iterator.Search.{any_from_yields_List}
use Rattle.documents.specs.Tests.{every}
use Rattle.goals.specs.Signed.{Signed, has}
use Rattle.list_laws.proofs.Tests.{list_any-some}
use Rattle.list_laws.proofs.Elements.{some-map}
use Rattle.js_algebra.specs.View.{with_sign, places}
use Rattle.js_tableau.proofs.members.has_any.Goals as goal

pub returns : goal.returns
returns g c =
    let are_in = every (λ (x : Signed). has x (g.S.Members.members c.args.set.now)) in
    let choice = λ (q : ℕ). with_sign c.args.plus q ∷ [] in
    any_from_yields_List (λ p. are_in (choice p.0)) _ _ c.any.result c.any.ensures.ran
    (YieldsList-from_slice _ c.iter.ensures.rest) (λ p b q h. search (rules, tests))
    ∙ list_any-some (λ q. are_in (choice q)) (λ p. p.0) c.args.positions.now
    ∙ sym (some-map are_in choice (places c.args.positions.now))
