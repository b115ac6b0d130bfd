-- What a fault says of bytes.
use Rattle.std.specs.Prelude.{◌≡◌, ℕ, List, ◌++◌, Option, Some, None, ⊤}
use Rattle.positions.specs.Position.{Position}
use Rattle.certificate_lines.specs.Reader.{Fault}
use Rattle.verdicts.specs.Rules.{not_a_line, too_long}
use Rattle.verdicts.specs.Verdict.{verdict_of_bytes}
use Rattle.js_lines.specs.Answers.{fault_view}
use Rattle.js_lines.specs.declared.fault.LineFault.{LineFault}
use Rattle.js_lines.specs.declared.fault.LineFault.TheVariants as L
use Rattle.js_checker.specs.Faults.{Tells}
use Rattle.js_checker.specs.declared.fault.CheckFault.{CheckFault}
use Rattle.js_checker.specs.declared.fault.CheckFault.TheVariants as F

-- whatever comes after the bytes, the fault gives the verdict
abbrev pub AreBroken : List Position → ℕ → ℕ → CheckFault → List ℕ → Type 0
AreBroken T a b fault bytes = (more : List ℕ) → Tells fault (verdict_of_bytes T a b (bytes ++ more))

-- what is reported of a fault that a reader meets; that bytes end within a line is met at their end alone
abbrev pub told : LineFault → CheckFault
told (L.NotALine n) = F.Rejected n not_a_line
told (L.LineTooLong n) = F.Rejected n too_long
told L.Unfinished = F.Memory
told L.Memory = F.Memory

-- what is reported is the fault that the reader met, or want of memory
abbrev pub IsLineFault : Option Fault → CheckFault → Type 0
IsLineFault met F.Memory = ⊤
IsLineFault None fault = ⊥
IsLineFault (Some f) fault = told (fault_view f) ≡ fault
