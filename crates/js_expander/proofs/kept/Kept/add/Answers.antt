-- What is kept of the alternatives, by the places so far.
use Rattle.std.proofs.Common.{◌≡◌, ◌++◌, ◌+◌, map, arith, ap, sym, ◌∙◌, subst}
use Rattle.std.proofs.lemmas.List.{map-append}
use Rattle.alternatives.specs.Alternative.{places}
use Rattle.js_expansion.specs.AlternativeView.{alternative_view}
use Rattle.js_expander.specs.Places.{AreCounted}
use Rattle.js_expander.proofs.Counted.{counted-more}
use Rattle.js_expander.proofs.kept.Kept.add.Goals as goal

pub invariant_of-self-2 : goal.invariant_of-self-2
invariant_of-self-2 c =
    let k = c.self.inside in
    let xs = map alternative_view k.alternatives.items in
    let more = map alternative_view c.into_vec-more.result.items in
    let all : map alternative_view c.append.new.self.items ≡ xs ++ more =
    ap (map alternative_view) (c.in_ok-append.ensures.items)
    ∙ map-append alternative_view k.alternatives.items c.into_vec-more.result.items in
    let many : c.places-places.result ≡ places more =
    c.places-places.ensures ∙ ap places (sym c.into_vec-more.ensures) in
    subst (λ z. AreCounted z (k.places + c.places-places.result)) (sym all)
    (counted-more xs k.places c.self.invariant more c.places-places.result many
    (omega (arith, c.if-places-self.false)))
