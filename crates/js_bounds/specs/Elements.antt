-- What one literal says of the number of elements.
use Rattle.std.specs.Prelude.{ℕ, List, Option}
use Rattle.positions.specs.Position.{Position, position_at}
use Rattle.goals.specs.Signed.{Signed, Plus, Minus}
use Rattle.frames.specs.ArrayFrame.{plus_lower, minus_lower, plus_below, minus_below}

abbrev pub lower_at : List Position → Signed → ℕ
lower_at T (Plus p) = plus_lower (position_at T p)
lower_at T (Minus p) = minus_lower (position_at T p)

abbrev pub below_at : List Position → Signed → Option ℕ
below_at T (Plus p) = plus_below (position_at T p)
below_at T (Minus p) = minus_below (position_at T p)
