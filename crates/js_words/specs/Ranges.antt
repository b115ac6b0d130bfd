-- The ranges of a command's numbers.
use Rattle.std.specs.Prelude.{◌≤◌, ℕ}
use Rattle.families.specs.Families.{greatest}
use Rattle.js_words.specs.Commands.{Command, Sat, Include, Valid, Check, Norm, Gen}

abbrev pub IsFrom : ℕ → ℕ → ℕ → Type 0
IsFrom low high n = (low ≤ n) × (n ≤ high)

-- the workers are from 1 to 64, and a family has schemas at the number
abbrev pub IsInRange : Command → Type 0
IsInRange (Sat a w) = IsFrom 1 64 w
IsInRange (Include a b w) = IsFrom 1 64 w
IsInRange (Valid a d) = Unit {0}
IsInRange (Check a b c w) = IsFrom 1 64 w
IsInRange (Norm a) = Unit {0}
IsInRange (Gen f n w) = IsFrom 1 (greatest f) n × IsFrom 1 64 w
