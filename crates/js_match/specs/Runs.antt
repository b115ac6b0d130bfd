-- Runs of characters of one set: where they begin, and where they can end.
use Rattle.std.specs.Prelude.{ℕ, zero, suc, ◌+◌, ◌-◌, List, slice_index, Bool, true, false, ◌&&◌, if◌then◌else◌, nat_le, Option, Some, None}
use Rattle.patterns.specs.CharSet.{has}
use Rattle.js_match.specs.Places.{marked}

-- the least place from which on all characters up to that place are in the set
abbrev pub begins : List (ℕ × ℕ) → List ℕ → ℕ → ℕ
begins set w zero = 0
begins set w (suc j) = if has set (slice_index w j) then begins set w j else suc j

-- the greatest marked place below n
abbrev pub latest : List Bool → ℕ → Option ℕ
latest marks zero = None
latest marks (suc n) = if marked marks n then Some n else latest marks n

abbrev pub fits : Option ℕ → ℕ → Bool
fits None k = true
fits (Some most) k = nat_le k most

-- the last start serves
abbrev pub reaches : ℕ → Option ℕ → Option ℕ → ℕ → Bool
reaches from None high j = false
reaches from (Some s) high j = nat_le from s && fits high (j - s)

-- a run from one of the marked places ends there, of at least `low` and at most `high` characters
abbrev pub is_end : List (ℕ × ℕ) → List ℕ → List Bool → ℕ → Option ℕ → ℕ → Bool
is_end set w marks low high j = reaches (begins set w j) (latest marks (j + 1 - low)) high j

-- the one start, where it is far enough before the place
abbrev pub lone : ℕ → ℕ → ℕ → Option ℕ
lone start low j = if nat_le (start + low) j then Some start else None

abbrev pub is_lone_end : List (ℕ × ℕ) → List ℕ → ℕ → ℕ → Option ℕ → ℕ → Bool
is_lone_end set w start low high j = reaches (begins set w j) (lone start low j) high j
