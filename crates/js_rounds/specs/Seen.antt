-- What answers that are known so far say of a round.
use Rattle.std.specs.Prelude.{ℕ, List, Bool, false, nat_le, Option, Some, None, get_or}

-- the answer is of that round or an earlier one
abbrev pub is_by : ℕ → Option (ℕ × ℕ) → Bool
is_by r None = false
is_by r (Some a) = nat_le a.0 r

-- the round has the goal
abbrev pub seen : List (Option (ℕ × ℕ)) → ℕ → ℕ → Bool
seen known r n = is_by r (get_or known n None)
