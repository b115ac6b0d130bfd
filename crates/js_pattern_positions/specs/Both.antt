-- What two sets of positions have in common.
use Rattle.std.specs.Prelude.{ℕ, zero, suc, Bool, false, ◌&&◌, ◌||◌}

-- whether one of the positions below n is in both
abbrev pub some_both : (ours theirs : ℕ → Bool) → ℕ → Bool
some_both ours theirs zero = false
some_both ours theirs (suc n) = some_both ours theirs n || (ours n && theirs n)
