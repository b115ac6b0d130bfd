-- The places of alternatives, counted.
use Rattle.std.specs.Prelude.{◌≡◌, ◌≤◌, ℕ, List}
use Rattle.alternatives.specs.Limit.{most_places}
use Rattle.alternatives.specs.Alternative.{Alternative, places}

-- so many, and they are within the limit
pub record AreCounted (alternatives : List Alternative) (n : ℕ) : Type 0 where
  pub count : n ≡ places alternatives
  pub few : n ≤ most_places
