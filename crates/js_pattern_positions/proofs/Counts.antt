-- Counts that are cut at a number.
use Rattle.std.proofs.Common.{◌≡◌, ℕ, ◌+◌, ◌*◌, ◌<◌, ◌≤◌, ◌⊎◌, min, arith}

-- a sum of three may be cut after each addition
pub min_plus : (a b c k : ℕ) → min (min (a + min b k) k + c) k ≡ min (a + (b + c)) k
min_plus a b c k = omega arith
