-- What is judged of a file, and why a file was not judged.
use Rattle.std.specs.Prelude.{◌≡◌, ◌⊎◌, ⊤, ℕ, ◌-◌, ◌^◌, ◌<◌, List, length, Option, None, Some, Result, Ok, Err}
use Rattle.positions.specs.Position.{Position}
use Rattle.verdicts.specs.Verdict as V
use Rattle.verdicts.specs.Verdict.{Verdict, verdict_of_bytes}
use Rattle.js_outside.specs.Counts.{Rose}
use Rattle.js_outside.specs.Told.{Files}
use Rattle.js_checker.specs.declared.fault.CheckFault.{CheckFault}
use Rattle.js_checker.specs.declared.fault.CheckFault.TheVariants as C
use Rattle.js_certificate.specs.declared.file.FileVerdict.{FileVerdict}
use Rattle.js_certificate.specs.declared.file.FileVerdict.TheVariants as F
use Rattle.js_certificate.specs.declared.file.FileFault.{FileFault}
use Rattle.js_certificate.specs.declared.file.FileFault.TheVariants.{TooLong, Read, Memory}

abbrev pub verdict_view : FileVerdict → Verdict
verdict_view F.Accepted = V.Accepted
verdict_view (F.Rejected k r) = V.Rejected k r

-- the verdict that a fault gives
abbrev pub verdict_of : CheckFault → Result FileVerdict FileFault
verdict_of (C.Rejected k r) = Ok (F.Rejected k r)
verdict_of C.Memory = Err Memory

-- the file of the name has these bytes, where files are known
abbrev pub HasBytes : Option Files → List ℕ → List ℕ → Type 0
HasBytes None name bytes = Unit {0}
HasBytes (Some files) name bytes = files name ≡ Some bytes

-- it is the verdict on the bytes of the file; where files aren't known, on some bytes
abbrev pub IsVerdictOf : List Position → ℕ → ℕ → Option Files → List ℕ → FileVerdict → Type 0
IsVerdictOf T a b told name v =
    (bytes : List ℕ) × HasBytes told name bytes × (verdict_of_bytes T a b bytes ≡ verdict_view v)

-- how many bytes a file may have
abbrev pub longest_file : ℕ
longest_file = 2 ^ 63 - 1

-- the file of the name has too many bytes, where files are known
abbrev pub IsTooLong : Option Files → List ℕ → Type 0
IsTooLong told name = (bytes : List ℕ) × HasBytes told name bytes × (longest_file < length bytes)

-- a count of faults is as it was, or a read failed while lines waited, which were judged then. For one worker no line
-- waits
abbrev pub SameOrRose : (workers : ℕ) → ℕ → ℕ → Type 0
SameOrRose workers before after = (after ≡ before) ⊎ ((1 < workers) × Rose before after)

-- counts of faults before and after a file was judged by so many workers: where a read failed, a line before it may be
-- rejected
abbrev pub CountsJudged : (workers : ℕ) → ℕ → ℕ → FileVerdict → Type 0
CountsJudged workers before after F.Accepted = after ≡ before
CountsJudged workers before after (F.Rejected k r) = SameOrRose workers before after

abbrev pub IsRejection : FileVerdict → Type 0
IsRejection F.Accepted = ⊥
IsRejection (F.Rejected k r) = ⊤

-- what a fault says of the file and of the shelf's count of faults before and after: memory may be refused where lines
-- are judged after a read that failed
abbrev pub FaultSays : Option Files → List ℕ → (workers : ℕ) → ℕ → ℕ → FileFault → Type 0
FaultSays told name workers before after TooLong = IsTooLong told name × (after ≡ before)
FaultSays told name workers before after Read = Rose before after
FaultSays told name workers before after Memory = SameOrRose workers before after
