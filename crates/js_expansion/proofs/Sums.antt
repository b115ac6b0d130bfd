-- The places of alternatives, one more at a time.
use Rattle.std.proofs.Common.{◌≡◌, ℕ, ◌+◌, ◌<◌, List, [], ◌∷◌, ◌++◌, map, take, length, get_or, arith, ap, ◌∙◌}
use Rattle.std.proofs.lemmas.List.{take_more}
use Rattle.alternatives.specs.Alternative.{places_of, places}
use Rattle.js_expansion.specs.declared.alternative.Alternative.{Alternative}
use Rattle.js_expansion.specs.AlternativeView.{alternative_view}

abbrev pub places_in : List Alternative → ℕ
places_in xs = places (map alternative_view xs)

places_in-push : (xs : List Alternative) (a : Alternative) →
    places_in (xs ++ a ∷ []) ≡ places_in xs + places_of (alternative_view a)
places_in-push [] a = omega arith
places_in-push (x ∷ xs) a = omega (arith, places_in-push xs a)

-- the first i + 1 alternatives have the places of the first i and those of the next one
pub places_in-more : (xs : List Alternative) (i : ℕ) (d : Alternative) → i < length xs →
    places_in (take (i + 1) xs) ≡ places_in (take i xs) + places_of (alternative_view (get_or xs i d))
places_in-more xs i d l = ap places_in (take_more xs i d l) ∙ places_in-push (take i xs) (get_or xs i d)
