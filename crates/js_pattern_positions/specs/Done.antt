-- Which positions have to be read for a match to be done before the word's end is known.
use Rattle.std.specs.Prelude.{◌≡◌, ◌<◌, ℕ, Bool, true, false}
use Rattle.patterns.specs.Tree.{Tree}
use Rattle.state_laws.specs.Flow.{ends_here}
use Rattle.js_pattern_positions.specs.Walk.{Quiet}

-- where no position from this one on was read, no match is done; 0 says nothing
abbrev pub Needs : Tree → ℕ → Type 0
Needs t from =
    0 < from → (read : ℕ → Bool) → Quiet read from → false ≡ ends_here t false false read 0 true
