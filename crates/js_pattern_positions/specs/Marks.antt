-- What a contract sees of a set of positions.
use Rattle.std.specs.Prelude.{ℕ, List, Bool}

-- flags, one a position, and how many there is room for
pub record Marks : Type 0 where
  pub flags : List Bool
  pub room : ℕ
