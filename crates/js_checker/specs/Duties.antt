-- What a line leaves of duties.
use Rattle.std.specs.Prelude.{◌≡◌, ℕ, List, [], ◌∷◌, Bool, true, false, Ok}
use Rattle.positions.specs.Position.{Position}
use Rattle.goals.specs.Signed.{Signed}
use Rattle.certificate_lines.specs.Line.{Line}
use Rattle.verdicts.specs.Duties.{Duty, run}
use Rattle.js_rules.specs.Told.{Breaks}
use Rattle.js_rules.specs.declared.fault.RuleFault.{RuleFault}

-- some duty is left
abbrev pub any_left : List Duty → Bool
any_left [] = false
any_left (d ∷ ds) = true

-- the line leaves the other duties in the place of these
abbrev pub Leaves : List Position → (ℕ → List Signed → Bool) → Line → List Duty → List Duty → Type 0
Leaves T cite l ds es = run T cite ds (l ∷ []) ≡ Ok es

-- the fault is that of the line at these duties
abbrev pub Faults : List Position → (ℕ → List Signed → Bool) → Line → List Duty → RuleFault → Type 0
Faults T cite l ds fault = Breaks (run T cite ds (l ∷ [])) fault
