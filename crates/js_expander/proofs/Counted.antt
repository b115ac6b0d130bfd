-- Places of alternatives are counted on.
use Rattle.std.proofs.Common.{◌≡◌, ℕ, ◌+◌, ◌-◌, ◌≤◌, List, [], ◌∷◌, ◌++◌, arith}
use Rattle.alternatives.specs.Alternative.{Alternative, places}
use Rattle.alternatives.specs.Limit.{most_places}
use Rattle.js_expander.specs.Places.{AreCounted}

pub places-append : (xs ys : List Alternative) → places (xs ++ ys) ≡ places xs + places ys
places-append [] ys = omega arith
places-append (x ∷ xs) ys = omega (arith, places-append xs ys)

module _ (xs : List Alternative) (n : ℕ) (counted : AreCounted xs n) (more : List Alternative) (m : ℕ)
    (many : m ≡ places more) where
  -- where further alternatives leave the places within their limit, the sum of both counts is that of all
  pub counted-more : m ≤ most_places - n → AreCounted (xs ++ more) (n + m)
  counted-more l =
      let c = counted.count in
      let f = counted.few in
      let a = places-append xs more in
      record { count = omega (arith, c, a, many); few = omega (arith, l, f) }
