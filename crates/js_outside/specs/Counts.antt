-- Counts of faults. A count stays at its last value.
use Rattle.std.specs.Prelude.{◌≡◌, ℕ, ◌+◌, ◌-◌, ◌^◌, ◌<◌, ◌≤◌, max, min}
use Rattle.std.specs.Prelude.{Result, Ok, Err}
use Rattle.js_outside.specs.declared.faults.BeginFault.{BeginFault}
use Rattle.js_outside.specs.declared.faults.BeginFault.TheVariants.{Failed, Memory}

-- the last value of a count
abbrev pub last_count : ℕ
last_count = 2 ^ 64 - 1

-- a count after one fault more. It never falls, and it stays at its last value
abbrev pub one_more : ℕ → ℕ
one_more count = max count (min (count + 1) last_count)

-- a count rose in a call: it is greater after the call than before, or it is at its last value
abbrev pub Rose : ℕ → ℕ → Type 0
Rose before after = one_more before ≤ after

-- a count didn't rise
abbrev pub Stays : ℕ → ℕ → Type 0
Stays before after = after < one_more before

-- the count over a call of `begin`: it rose where the call failed, and is otherwise as before
abbrev pub CountsBegin : {T : Type 0} → Result T BeginFault → ℕ → ℕ → Type 0
CountsBegin (Ok x) before after = after ≡ before
CountsBegin (Err Failed) before after = Rose before after
CountsBegin (Err Memory) before after = after ≡ before
