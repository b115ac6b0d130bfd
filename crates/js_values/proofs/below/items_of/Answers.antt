use Rattle.std.proofs.Common.{ap, ap₂, sym, ◌∙◌, ◌∷◌, []}
use Rattle.std.proofs.lemmas.List.{map-append}
use Rattle.positions.specs.Position.{Items}
use Rattle.normal_forms.specs.Values.{but_last, last_of}
use Rattle.js_algebra.specs.View.{places}
use Rattle.js_values.proofs.SinkLemmas.{but_last-end, last_of-end}
use Rattle.js_values.proofs.below.items_of.Goals as goal

pub returns-in-Some : goal.returns-in-Some
returns-in-Some c =
    let front = c.pop.new.self.items in
    let rest = c.in-Some.rest in
    let whole = ap places c.in-Some.ensures.items ∙ map-append (λ p. p.0) front (rest ∷ []) in
    ap₂ Items
    (ap places c.from_vec.ensures ∙ sym (ap but_last whole ∙ but_last-end (places front) rest.0))
    (sym (ap last_of whole ∙ last_of-end (places front) rest.0))
