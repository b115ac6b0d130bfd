-- What a reader of lines answers.
use Rattle.std.specs.Prelude.{◌≡◌, ℕ, List, Bool, true, false, Option, Some, None, Result, Ok, Err}
use Rattle.certificate_lines.specs.Reader.{Fault, NotALine, TooLong, Unfinished, Reader, fed, read_count}
use Rattle.js_lines.specs.declared.fault.LineFault.{LineFault}
use Rattle.js_lines.specs.declared.fault.LineFault.TheVariants as F

abbrev pub fault_view : Fault → LineFault
fault_view (NotALine n) = F.NotALine n
fault_view (TooLong n) = F.LineTooLong n
fault_view Unfinished = F.Unfinished

-- the fault, or else a value
abbrev pub answer : {A : Type 0} → A → Option Fault → Result A LineFault
answer x None = Ok x
answer x (Some f) = Err (fault_view f)

abbrev pub is_memory : {A : Type 0} → Result A LineFault → Bool
is_memory (Err F.Memory) = true
is_memory _ = false

-- memory was refused, or this is the answer
abbrev pub IsAnswer : {A : Type 0} → Result A LineFault → Result A LineFault → Type 0
IsAnswer (Err F.Memory) right = Unit {0}
IsAnswer given right = given ≡ right

-- what is answered to a piece: how much of it was read, or the fault at which the reader then is
abbrev pub piece_answer : Reader → List ℕ → Result ℕ LineFault
piece_answer r piece = answer (read_count piece) (fed r piece).fault
