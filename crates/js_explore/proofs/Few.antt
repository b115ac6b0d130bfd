-- There are no more alternatives with numbers than places.
use Rattle.std.proofs.Common.{◌+◌, ◌≤◌, List, [], ◌∷◌, ◌++◌, length, Option, Some, None, arith}
use Rattle.goals.specs.Signed.{Signed}
use Rattle.alternatives.specs.Alternative.{Alternative, places_of, places}
use Rattle.search.specs.Rounds.{NumberedPlaced, number_members, with_members, numbered}

-- there are no more numbered alternatives than places
pub few_numbered : (gs : List (List Signed)) (bs : List Alternative) → length (numbered gs bs) ≤ places bs
few_numbered gs [] = omega arith
few_numbered gs (a ∷ bs) = go (number_members gs a.members) (few_numbered gs bs) where
  go : (o : Option (List NumberedPlaced)) → length (numbered gs bs) ≤ places bs
      → length (with_members gs a o ++ numbered gs bs) ≤ places_of a + places bs
  go None l = omega (arith, l)
  go (Some ns) l = omega (arith, l)
