use Rattle.std.proofs.Common.{rules, tests, sym, ◌∙◌}
use Rattle.std.proofs.lemmas.Iterator.{YieldsList-from_slice}
use Rattle.std.proofs.lemmas.Iterator.Search.{all_from_yields_List}
use Rattle.goals.specs.Signed.{Signed, has}
use Rattle.list_laws.proofs.Tests.{list_all-every}
use Rattle.list_laws.proofs.Elements.{every-map}
use Rattle.js_algebra.specs.View.{with_sign, places}
use Rattle.js_tableau.proofs.members.has_all.Goals as goal

pub returns : goal.returns
returns g c =
    let is_in = λ (x : Signed). has x (g.S.Members.members c.args.set.now) in
    let sign = with_sign c.args.plus in
    all_from_yields_List (λ p. is_in (sign p.0)) _ _ c.all.result c.all.ensures.ran
    (YieldsList-from_slice _ c.iter.ensures.rest) (λ p b q h. search (rules, tests))
    ∙ list_all-every (λ q. is_in (sign q)) (λ p. p.0) c.args.positions.now
    ∙ sym (every-map is_in sign (places c.args.positions.now))
