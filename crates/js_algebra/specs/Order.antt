-- The order of signed positions as numbers.
use Rattle.std.specs.Prelude.{ℕ, ◌+◌, ◌*◌}
use Rattle.goals.specs.Signed.{Signed, Plus, Minus}

-- by position, plus before minus, without gaps
abbrev pub order_of : Signed → ℕ
order_of (Plus p) = 2 * p
order_of (Minus p) = 2 * p + 1
