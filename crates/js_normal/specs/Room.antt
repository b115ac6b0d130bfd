-- Positions that can be moved up by some places.
use Rattle.std.specs.Prelude.{ℕ, ◌+◌, Bool, nat_lt}

-- moved up it is still a number of 32 bits
abbrev pub has_room : ℕ → ℕ → Bool
has_room by q = nat_lt (by + q) 4294967296
