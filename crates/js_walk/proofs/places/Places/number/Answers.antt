use Rattle.std.proofs.Common.{subst, sym, ◌∙◌}
use Rattle.js_pointers.specs.Table.{Leads}
use Rattle.js_pointers.proofs.PointersLaws.{pointers_of-distinct}
use Rattle.js_walk.specs.PlacesView.{pointers_in}
use Rattle.js_walk.proofs.PlacesLemmas.{number_of-some, number_of-none, number_of-absent}
use Rattle.js_walk.proofs.places.Places.number.Goals as goal

pub returns-in-Some-number-clause-place : goal.returns-in-Some-number-clause-place
returns-in-Some-number-clause-place c = λ p leads.
    let places = c.args.self.now in
    let at = subst (λ a. Leads (pointers_in places) a p) c.in-Some.is leads in
    number_of-some _ (pointers_of-distinct places.pointers) _ p at.0 at.1 places.done _ places.within
    (sym c.number.ensures ∙ c.in-Some-number.is)

pub returns-in-None-number-clause-place : goal.returns-in-None-number-clause-place
returns-in-None-number-clause-place c = λ p leads.
    let places = c.args.self.now in
    let at = subst (λ a. Leads (pointers_in places) a p) c.in-Some.is leads in
    c.len.ensures
    ∙ number_of-none _ (pointers_of-distinct places.pointers) _ p at.0 at.1 places.done places.within
    (sym c.number.ensures ∙ c.in-None-number.is)

pub returns-in-None-clause-place : goal.returns-in-None-clause-place
returns-in-None-clause-place c = λ p leads.
    let places = c.args.self.now in
    c.len-in-None.ensures
    ∙ number_of-absent (pointers_in places) p places.done
    (subst (λ a. Leads (pointers_in places) a p) c.in-None.is leads) places.within
